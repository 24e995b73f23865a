-- The lowering of a resolved machine, as `emit_region`, `build_next_state_chain` and `value_of` give it.
use Rattle.std.specs.Prelude.{List, [], ◌∷◌, ◌++◌, Bool, true, false, cond, ◌&&◌, ◌||◌, ℕ, suc, ◌+◌}
use Rattle.std.proofs.Math.Option.{Option, none, some}
use Rattle.pack_rules.specs.Names.{Name, eq_name}
use Rattle.machine_rules.specs.MadeNames.{active_var, enum_name, next_var, state_var}
use Rattle.pack_rules.specs.Syntax.{Enum, Equation, Expr, Port, Transition, Ty, e_arrow, e_binary, e_const, e_if, e_pre, e_unary, e_var, l_bool, l_char, l_float, l_int, o_and, o_eq, o_not, t_array, t_bool, t_char, t_float32, t_float64, t_int16, t_int32, t_int64, t_int8, t_named, t_uint16, t_uint32, t_uint64, t_uint8}
use Rattle.machine_rules.specs.Resolved.{ResolvedMachine, ResolvedRegions, ResolvedStates, r_cons, r_nil, s_cons, s_nil}

-- how many regions are in a list of states, in a list of regions
unfoldable mutual
  pub size_s : ResolvedStates → ℕ
  size_s s_nil = 0
  size_s (s_cons s es ts rs rest) = size_r rs + size_s rest

  pub size_r : ResolvedRegions → ℕ
  size_r r_nil = 0
  size_r (r_cons i h ss rest) = suc (size_s ss) + size_r rest

-- `build_next_state_chain`
unfoldable pub transitions_of : Name → List Transition → Expr
transitions_of v [] = e_var v
transitions_of v (t ∷ ts) = e_if t.guard (e_var t.target) (transitions_of v ts)

-- the test for a state: the state variable equals its name
unfoldable pub is_name : Name → Name → Expr
is_name v s = e_binary o_eq (e_var v) (e_var s)

-- a chain over the states in which the last has no test
unfoldable pub chain_step : Expr → Expr → ResolvedStates → Expr → Expr
chain_step test value s_nil chain = value
chain_step test value (s_cons s es ts rs rest) chain = e_if test value chain

-- a region's next state: by the state it is in, the target of that state's first true guard, else the state
unfoldable pub next_chain : Name → ResolvedStates → Expr
next_chain v s_nil = e_var v
next_chain v (s_cons s es ts rs rest) = chain_step (is_name v s) (transitions_of v ts) rest (next_chain v rest)

-- a state variable without restart: the initial state, then what was next a cycle ago
unfoldable pub previous_next : ℕ → Name → Expr
previous_next n initial = e_arrow (e_var initial) (e_pre (e_var (next_var n)))

-- the equations of one region: the top one, and one inside a state, active where `active` holds
unfoldable pub top_equations : Name → ResolvedStates → List Equation
top_equations initial ss =
    record { lhs = state_var 0 ∷ []; rhs = previous_next 0 initial }
    ∷ record { lhs = next_var 0 ∷ []; rhs = next_chain (state_var 0) ss }
    ∷ []

-- active now, and either not a cycle ago or this is the first cycle
unfoldable pub just_entered : ℕ → Expr
just_entered n = e_binary o_and (e_var (active_var n)) (e_arrow (e_const (l_bool true)) (e_unary o_not (e_pre (e_var (active_var n)))))

-- a nested region's state: with history it is only held, without it begins anew where it was just entered
unfoldable pub state_rhs : ℕ → Name → Bool → Expr
state_rhs n initial true = previous_next n initial
state_rhs n initial false = e_if (just_entered n) (e_var initial) (previous_next n initial)

-- Emit, the three equations of a nested region: active, state, next; one that is not active stays where it is
unfoldable pub region_equations : ℕ → Expr → Name → Bool → ResolvedStates → List Equation
region_equations n active initial history ss =
    record { lhs = active_var n ∷ []; rhs = active }
    ∷ record { lhs = state_var n ∷ []; rhs = state_rhs n initial history }
    ∷ record { lhs = next_var n ∷ []; rhs = e_if (e_var (active_var n)) (next_chain (state_var n) ss) (e_var (state_var n)) }
    ∷ []

-- the activation condition of a region in the state `s` of region `n`
-- (the top region, `top`, is active in every cycle)
unfoldable pub active_in : Bool → ℕ → Name → Expr
active_in true n s = is_name (state_var n) s
active_in false n s = e_binary o_and (e_var (active_var n)) (is_name (state_var n) s)

-- `emit_region` below the region `p`, whose states' regions have the ids from `n` on
unfoldable mutual
  pub equations_s : Bool → ℕ → ℕ → ResolvedStates → List Equation
  equations_s top p n s_nil = []
  equations_s top p n (s_cons s es ts rs rest) = equations_r (active_in top p s) n rs ++ equations_s top p (n + size_r rs) rest

  pub equations_r : Expr → ℕ → ResolvedRegions → List Equation
  equations_r active n r_nil = []
  equations_r active n (r_cons i h ss rest) =
      region_equations n active i h ss ++ (equations_s false n (suc n) ss ++ equations_r active (suc n + size_s ss) rest)

-- the names of a region's own states, in order
unfoldable pub names_of : ResolvedStates → List Name
names_of s_nil = []
names_of (s_cons s es ts rs rest) = s ∷ names_of rest

-- the locals of every region: state and next, of the region's enum
unfoldable pub region_locals : Name → ℕ → List Port
region_locals m n = record { name = state_var n; ty = t_named (enum_name m n) } ∷ record { name = next_var n; ty = t_named (enum_name m n) } ∷ []

-- Emit: the locals of the regions inside, in preorder; a nested one has `active` too, after the two of every region
unfoldable mutual
  pub locals_s : Name → ℕ → ResolvedStates → List Port
  locals_s m n s_nil = []
  locals_s m n (s_cons s es ts rs rest) = locals_r m n rs ++ locals_s m (n + size_r rs) rest

  pub locals_r : Name → ℕ → ResolvedRegions → List Port
  locals_r m n r_nil = []
  locals_r m n (r_cons i h ss rest) =
      region_locals m n ++ ((record { name = active_var n; ty = t_bool } ∷ []) ++ (locals_s m (suc n) ss ++ locals_r m (suc n + size_s ss) rest))

-- Emit: an enum for each region inside, in preorder, whose variants are the region's states
unfoldable mutual
  pub enums_s : Name → ℕ → ResolvedStates → List Enum
  enums_s m n s_nil = []
  enums_s m n (s_cons s es ts rs rest) = enums_r m n rs ++ enums_s m (n + size_r rs) rest

  pub enums_r : Name → ℕ → ResolvedRegions → List Enum
  enums_r m n r_nil = []
  enums_r m n (r_cons i h ss rest) =
      record { name = enum_name m n; variants = names_of ss } ∷ (enums_s m (suc n) ss ++ enums_r m (suc n + size_s ss) rest)

-- which equation of a state gives an output: the first whose only left name it is
unfoldable pub is_only : Name → List Name → Bool
is_only o [] = false
is_only o (x ∷ []) = eq_name x o
is_only o (x ∷ y ∷ l) = false

-- the right side of that equation
unfoldable pub own_value : Name → List Equation → Option Expr
own_value o [] = none
own_value o (e ∷ es) = cond (is_only o e.lhs) (some e.rhs) (own_value o es)

-- whether there is such an equation
unfoldable pub is_some : Option Expr → Bool
is_some none = false
is_some (some e) = true

-- Covered: every state has an equation of its own for the output or a region that covers it; some region covers it in all states
unfoldable mutual
  pub all_states_cover : Name → ResolvedStates → Bool
  all_states_cover o s_nil = true
  all_states_cover o (s_cons s es ts rs rest) = (is_some (own_value o es) || some_region_covers o rs) && all_states_cover o rest

  pub some_region_covers : Name → ResolvedRegions → Bool
  some_region_covers o r_nil = false
  some_region_covers o (r_cons i h ss rest) = all_states_cover o ss || some_region_covers o rest

-- `default_expr_for_type`; no accepted machine has it in its equations
unfoldable pub default_expr_for_type : Ty → Expr
default_expr_for_type t_bool = e_const (l_bool false)
default_expr_for_type t_int8 = e_const (l_int 0)
default_expr_for_type t_int16 = e_const (l_int 0)
default_expr_for_type t_int32 = e_const (l_int 0)
default_expr_for_type t_int64 = e_const (l_int 0)
default_expr_for_type t_uint8 = e_const (l_int 0)
default_expr_for_type t_uint16 = e_const (l_int 0)
default_expr_for_type t_uint32 = e_const (l_int 0)
default_expr_for_type t_uint64 = e_const (l_int 0)
default_expr_for_type t_float32 = e_const (l_float 0)
default_expr_for_type t_float64 = e_const (l_float 0)
default_expr_for_type t_char = e_const (l_char 0)
default_expr_for_type (t_array n t) = e_const (l_int 0)
default_expr_for_type (t_named n) = e_const (l_int 0)

-- a value where there is one, else the default
unfoldable pub from_option : Option Expr → Expr → Expr
from_option none d = d
from_option (some e) d = e

-- `value_of` for the region `p`, whose states' regions have the ids from `n` on; `value_in_state`
unfoldable mutual
  pub value_s : Name → Expr → ℕ → ℕ → ResolvedStates → Expr
  value_s o d p n s_nil = d
  value_s o d p n (s_cons s es ts rs rest) =
      chain_step (is_name (state_var p) s) (value_r o d (own_value o es) n rs) rest (value_s o d p (n + size_r rs) rest)

  pub value_r : Name → Expr → Option Expr → ℕ → ResolvedRegions → Expr
  value_r o d own n r_nil = from_option own d
  value_r o d own n (r_cons i h ss rest) =
      cond (all_states_cover o ss) (value_s o d n (suc n) ss) (value_r o d own (suc n + size_s ss) rest)

-- Emit: one equation for each output port, in order, over the states of the top region
unfoldable pub output_equations : ResolvedMachine → List Port → List Equation
output_equations m [] = []
output_equations m (p ∷ ps) =
    record { lhs = p.name ∷ []; rhs = value_s p.name (default_expr_for_type p.ty) 0 1 m.states } ∷ output_equations m ps

-- Emit: the top region's equations, those of the regions inside, the outputs'
unfoldable pub equations_of : ResolvedMachine → List Equation
equations_of m = top_equations m.initial m.states ++ (equations_s true 0 1 m.states ++ output_equations m m.outputs)

-- the enums and locals of a machine, the top region's first
unfoldable pub enums_of : ResolvedMachine → List Enum
enums_of m = record { name = enum_name m.name 0; variants = names_of m.states } ∷ enums_s m.name 1 m.states

-- the drawn locals come first
unfoldable pub locals_of : ResolvedMachine → List Port
locals_of m = m.locals ++ (region_locals m.name 0 ++ locals_s m.name 1 m.states)
