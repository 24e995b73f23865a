-- Scopes on their own cycles: the visits of a clock, the run of just those cycles, the calls of `last`, and what is presupposed.
use Rattle.std.specs.Prelude.{ℕ, zero, suc, List, [], ◌∷◌, ◌++◌, Bool, true, false, cond, not, ◌&&◌, ◌||◌, ◌≡◌, eqb}
use Rattle.std.proofs.Math.Option.{Option, none, some}
use Rattle.std.proofs.Math.Path.{refl}
use Rattle.pack_rules.specs.Names.{Name, eq_name, member}
use Rattle.pack_rules.specs.Report.{first_of}
use Rattle.pack_rules.specs.Syntax.{Activation, Branch, Equation, Expr, Exprs, Node, Package, e_array, e_arrow, e_binary, e_call, e_cast, e_const, e_field, e_if, e_index, e_iterate, e_merge, e_pre, e_struct, e_tuple, e_unary, e_var, e_when, x_cons, x_nil}
use Rattle.machine_rules.specs.Lower.{own_value}
use Rattle.activation_rules.specs.LastCalls.{bad_last, call_kind, last_of, plain}
use Rattle.activation_rules.specs.MadeNames.{Scope, branch, else_scope}
use Rattle.activation_rules.specs.SampledConstants.{has_const}
use Rattle.activation_rules.specs.FreeVars.{free_vars}
use Rattle.activation_rules.specs.Sought.{Sought, bodies, conditions, right_sides}
use Rattle.activation_rules.specs.Types.{port_names, variables}
use Rattle.activation_rules.specs.RewriteLast.{rewrite_last}
use Rattle.run_rules.specs.DemandPremises.{DrawnAct, enum_values}
use Rattle.run_rules.specs.Premises.{ActPremises}
use Rattle.run_rules.specs.Run.{Clock, Run, Value, eval, every}
use Rattle.run_rules.specs.Scopes.{Conditions, scope_clock}

-- how many ticks a clock has before a cycle
unfoldable pub count : Clock → ℕ → ℕ
count c zero = 0
count c (suc t) = cond (c t) (suc (count c t)) (count c t)

-- the k-th tick before the cycle N, counted from 0: the one with k ticks before it
unfoldable pub visit : Clock → ℕ → ℕ → Option ℕ
visit c zero k = none
visit c (suc N) k = cond (c N && eqb (count c N) k) (some N) (visit c N k)

module _ {O : Type 0} where
  -- what a run has in a cycle, where there is one
  unfoldable pub cell_in : Run O → Name → Option ℕ → Option (Value O)
  cell_in R x none = none
  cell_in R x (some t) = R.at x t

  unfoldable pub on_in : Run O → Name → Option ℕ → Bool
  on_in R x none = false
  on_in R x (some t) = R.on x t

  pub off-in : (R : Run O) (x : Name) (u : Option ℕ) → on_in R x u ≡ false → cell_in R x u ≡ none
  unfolding cell_in on_in
  off-in R x none e = refl
  off-in R x (some t) e = R.off x t e

  -- just the cycles before N in which a clock ticks: cycle k is the clock's k-th tick; operations and enum values are the same
  unfoldable pub narrow : Run O → Clock → ℕ → Run O
  narrow R c N =
      record {
        op = R.op;
        node = R.node;
        iterate = R.iterate;
        select = R.select;
        selects = R.selects;
        enums = R.enums;
        at = λ x k. cell_in R x (visit c N k);
        on = λ x k. on_in R x (visit c N k);
        off = λ x k e. off-in R x (visit c N k) e;
      }

-- no `when`, `merge`, iterate or call
unfoldable mutual
  pub simple : Expr → Bool
  simple (e_const l) = true
  simple (e_var x) = true
  simple (e_unary o a) = simple a
  simple (e_binary o a b) = simple a && simple b
  simple (e_if a b d) = simple a && (simple b && simple d)
  simple (e_pre a) = simple a
  simple (e_arrow a b) = simple a && simple b
  simple (e_call f xs) = false
  simple (e_field a f) = simple a
  simple (e_index a i) = simple a && simple i
  simple (e_tuple xs) = simples xs
  simple (e_array xs) = simples xs
  simple (e_struct n fs xs) = simples xs
  simple (e_cast t a) = simple a
  simple (e_when a x on) = false
  simple (e_merge x a b) = false
  simple (e_iterate k f i xs) = false

  pub simples : Exprs → Bool
  simples x_nil = true
  simples (x_cons a xs) = simple a && simples xs

-- the calls of `last` in an expression, in preorder: the variable that each asks for, and its initial where one is given
unfoldable mutual
  pub calls_of : Expr → List Sought
  calls_of (e_const l) = []
  calls_of (e_var x) = []
  calls_of (e_unary o a) = calls_of a
  calls_of (e_binary o a b) = calls_of a ++ calls_of b
  calls_of (e_if a b c) = calls_of a ++ (calls_of b ++ calls_of c)
  calls_of (e_pre a) = calls_of a
  calls_of (e_arrow a b) = calls_of a ++ calls_of b
  calls_of (e_call f xs) = elim (call_kind f xs) [ plain ↦ calls_in xs | bad_last ↦ calls_in xs | last_of v i ↦ record { var = v; init = i } ∷ [] ]
  calls_of (e_field a f) = calls_of a
  calls_of (e_index a i) = calls_of a ++ calls_of i
  calls_of (e_tuple xs) = calls_in xs
  calls_of (e_array xs) = calls_in xs
  calls_of (e_struct n fs xs) = calls_in xs
  calls_of (e_cast t a) = calls_of a
  calls_of (e_when a x b) = calls_of a
  calls_of (e_merge x a b) = calls_of a ++ calls_of b
  calls_of (e_iterate k f i xs) = calls_in xs

  pub calls_in : Exprs → List Sought
  calls_in x_nil = []
  calls_in (x_cons a xs) = calls_of a ++ calls_in xs

-- those of some expressions
unfoldable pub all_calls : List Expr → List Sought
all_calls [] = []
all_calls (e ∷ es) = calls_of e ++ all_calls es

-- whether a call asks for a variable
unfoldable pub asks : Name → List Sought → Bool
asks v [] = false
asks v (c ∷ cs) = eq_name c.var v || asks v cs

-- the initial that is given first for a variable
unfoldable pub first_given : Name → List Sought → Option Expr
first_given v [] = none
first_given v (c ∷ cs) = first_of (cond (eq_name c.var v) c.init none) (first_given v cs)

-- one of the names is among `vars`
unfoldable pub any_in : List Name → List Name → Bool
any_in vars [] = false
any_in vars (x ∷ l) = member x vars || any_in vars l

-- an expression reads one of the variables, or holds a literal
unfoldable pub has_source : List Name → Expr → Bool
has_source vars e = any_in vars (free_vars e []) || has_const e

-- for each of some expressions
abbrev pub Every : (Expr → Type 0) → List Expr → Type 0
Every P [] = Unit {0}
Every P (e ∷ es) = P e × Every P es

-- all right sides of an activation's scopes
unfoldable pub sides_of : Activation → List Expr
sides_of A = bodies A.branches ++ right_sides A.else_equations

-- The request's premises, besides those of demand 3:
-- - apart: the owner's variables and the outputs are no enum values (names differ);
-- - simple-conditions, simple-sides: these hold no `when`, `merge`, iterate or call besides `last`: none is left when `last` is replaced;
-- - sources: each right side reads a variable of the owner or holds a literal.
-- That a scope has one equation for each output and no others, and that no `last` has another in its initial, is not needed.
pub record ScopePremises {O : Type 0} (R : Run O) (N : ℕ) (C : Conditions) (A : Activation) (owner : Node) : Type 0 where
  pub act : ActPremises R N C A
  pub apart : (x : Name) → member x (port_names (variables owner) ++ port_names A.outputs) ≡ true → R.enums x ≡ false
  pub simple-conditions : Every (λ e. simple (rewrite_last A.name e) ≡ true) (conditions A.branches)
  pub simple-sides : Every (λ e. simple (rewrite_last A.name e) ≡ true) (sides_of A)
  pub sources : Every (λ e. has_source (port_names (variables owner)) e ≡ true) (sides_of A)

-- two lists of names have none in common
unfoldable pub apart_from : List Name → List Name → Bool
apart_from [] l = true
apart_from (x ∷ k) l = not (member x l) && apart_from k l

-- The same as it is drawn: enum values are among those of the package, and no variable of the owner and no output has the name of one.
pub record DrawnScopes {O : Type 0} (R : Run O) (N : ℕ) (C : Conditions) (p : Package) (A : Activation) (owner : Node) : Type 0 where
  pub act : DrawnAct R N C p A
  pub apart : apart_from (port_names (variables owner) ++ port_names A.outputs) (enum_values p.enums) ≡ true
  pub simple-conditions : Every (λ e. simple (rewrite_last A.name e) ≡ true) (conditions A.branches)
  pub simple-sides : Every (λ e. simple (rewrite_last A.name e) ≡ true) (sides_of A)
  pub sources : Every (λ e. has_source (port_names (variables owner)) e ≡ true) (sides_of A)

-- the equations of a scope
unfoldable pub scope_is : List Branch → List Equation → Scope → List Equation
scope_is bs others else_scope = others
scope_is [] others (branch k) = []
scope_is (b ∷ bs) others (branch zero) = b.equations
scope_is (b ∷ bs) others (branch (suc k)) = scope_is bs others (branch k)

-- the right side of a scope's equation for an output
unfoldable pub side_of : Activation → Scope → Name → Option Expr
side_of A s o = own_value o (scope_is A.branches A.else_equations s)

-- A right side of the scope s, a call of `last` in it being its holder, in a cycle t of that scope: its value in the run of just the scope's
-- cycles, where t has the number of the scope's cycles before it, on the clock of every cycle.
unfoldable pub visit_value : {O : Type 0} → Run O → ℕ → Conditions → Activation → Scope → Expr → ℕ → Option (Value O)
visit_value R N C A s e t = eval (narrow R (scope_clock C A s) N) (rewrite_last A.name e) every (count (scope_clock C A s) t)

-- `last` of the variable v with this initial, on the clock of every cycle: in cycle 0 the initial's value, then v's value in the cycle before
unfoldable pub last_value : {O : Type 0} → Run O → Expr → Name → ℕ → Option (Value O)
last_value R i v zero = eval R i every 0
last_value R i v (suc t) = R.at v t
