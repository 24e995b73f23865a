-- Equations, enums and locals of a machine may be written.
use Prim.Native.Nat.{ℕ, suc, ◌+◌}
use native.Mathlib.Omega.{arith}
use mathlib.Core.List.{List, [], ◌∷◌, ◌++◌}
use mathlib.Core.Bool.{Bool, true, false, cond}
use mathlib.Core.Option.{Option, none, some}
use Rattle.wire.specs.Lists.{All}
use Rattle.pack_rules.specs.Legal.{Allowed, LegalLit}
use Rattle.pack_rules.specs.Names.{Name}
use Rattle.pack_rules.specs.Syntax.{Equation, Expr, Port, Transition, Ty, t_array, t_bool, t_char, t_float32, t_float64, t_int16, t_int32, t_int64, t_int8, t_named, t_uint16, t_uint32, t_uint64, t_uint8}
use Rattle.machine_rules.specs.Resolved.{ResolvedMachine, ResolvedRegions, ResolvedStates, r_cons, r_nil, s_cons, s_nil}
use Rattle.pack.proofs.Tables.{all_append}
use Rattle.machine_rules.specs.Lower.{active_in, all_states_cover, chain_step, default_expr_for_type, enums_of, enums_r, enums_s, equations_of, equations_r, equations_s, from_option, is_name, is_only, just_entered, locals_of, locals_r, locals_s, names_of, next_chain, output_equations, own_value, previous_next, region_equations, region_locals, size_r, size_s, state_rhs, top_equations, transitions_of, value_r, value_s}
use Rattle.machine_rules.specs.MadeNames.{active_var, enum_name, next_var, state_var}
use Rattle.machines.proofs.RefusalNames.{Maybe}
use Rattle.runs.proofs.Letters.{active-allowed, enum-allowed, next-allowed, state-allowed}
use Rattle.runs.proofs.Proper.{ProperE, ProperEnum, ProperPort, ProperQ, ProperT}
use Rattle.runs.proofs.ProperMade.{bool-proper, maybe-cond, named-proper}
use Rattle.runs.proofs.ProperResolved.{ProperMachine, ProperR, ProperS}

-- the equations
transitions-expr : (v : Name) (ts : List Transition) → Allowed v → All ProperT ts → ProperE (transitions_of v ts)
unfolding transitions_of ProperE All
transitions-expr v [] h a = h
transitions-expr v (t ∷ ts) h a = (a.0.guard, a.0.target, transitions-expr v ts h a.1)

is-expr : (v s : Name) → Allowed v → Allowed s → ProperE (is_name v s)
unfolding is_name ProperE
is-expr v s h k = (h, k)

or-expr : (test value : Expr) (rest : ResolvedStates) (chain : Expr) → ProperE test → ProperE value → ProperE chain → ProperE (chain_step test value rest chain)
unfolding chain_step ProperE
or-expr test value s_nil chain h k l = k
or-expr test value (s_cons s es ts rs rest) chain h k l = (h, k, l)

next-expr : (v : Name) (ss : ResolvedStates) → Allowed v → ProperS ss → ProperE (next_chain v ss)
unfolding next_chain ProperE ProperS
next-expr v s_nil h a = h
next-expr v (s_cons s es ts rs rest) h a = or-expr (is_name v s) (transitions_of v ts) rest (next_chain v rest) (is-expr v s h a.0) (transitions-expr v ts h a.2) (next-expr v rest h a.4)

held-expr : (n : ℕ) (i : Name) → Allowed i → ProperE (previous_next n i)
unfolding previous_next ProperE
held-expr n i h = (h, next-allowed n)

one_left : (x : Name) → Allowed x → All Allowed (x ∷ [])
unfolding All
one_left x h = (h, tt)

top-equations : (i : Name) (ss : ResolvedStates) → Allowed i → ProperS ss → All ProperQ (top_equations i ss)
unfolding top_equations All
top-equations i ss h a = (
  record { lhs = one_left (state_var 0) (state-allowed 0); rhs = held-expr 0 i h },
  (record { lhs = one_left (next_var 0) (next-allowed 0); rhs = next-expr (state_var 0) ss (state-allowed 0) a }, tt),
)

entered-expr : (n : ℕ) → ProperE (just_entered n)
unfolding just_entered ProperE LegalLit
entered-expr n = (active-allowed n, (tt, active-allowed n))

state-expr : (n : ℕ) (i : Name) (h : Bool) → Allowed i → ProperE (state_rhs n i h)
unfolding state_rhs ProperE
state-expr n i true k = held-expr n i k
state-expr n i false k = (entered-expr n, k, held-expr n i k)

region-equations : (n : ℕ) (active : Expr) (i : Name) (h : Bool) (ss : ResolvedStates) → ProperE active → Allowed i → ProperS ss → All ProperQ (region_equations n active i h ss)
unfolding region_equations All ProperE
region-equations n active i h ss p k a = (
  record { lhs = one_left (active_var n) (active-allowed n); rhs = p },
  (
    record { lhs = one_left (state_var n) (state-allowed n); rhs = state-expr n i h k },
    (record { lhs = one_left (next_var n) (next-allowed n); rhs = (active-allowed n, next-expr (state_var n) ss (state-allowed n) a, state-allowed n) }, tt),
  ),
)

active-expr : (top : Bool) (n : ℕ) (s : Name) → Allowed s → ProperE (active_in top n s)
unfolding active_in ProperE
active-expr true n s h = is-expr (state_var n) s (state-allowed n) h
active-expr false n s h = (active-allowed n, is-expr (state_var n) s (state-allowed n) h)

mutual
  unfolding equations_s equations_r ProperS ProperR All

  equations-s : (top : Bool) (p n : ℕ) (ss : ResolvedStates) → ProperS ss → All ProperQ (equations_s top p n ss)
  equations-s top p n s_nil a = tt
  equations-s top p n (s_cons s es ts rs rest) a =
      all_append ProperQ (equations_r (active_in top p s) n rs) (equations_s top p (n + size_r rs) rest) (equations-r (active_in top p s) n rs (active-expr top p s a.0) a.3) (equations-s top p (n + size_r rs) rest a.4)

  equations-r : (active : Expr) (n : ℕ) (rs : ResolvedRegions) → ProperE active → ProperR rs → All ProperQ (equations_r active n rs)
  equations-r active n r_nil p a = tt
  equations-r active n (r_cons i h ss rest) p a =
      all_append ProperQ (region_equations n active i h ss) (equations_s false n (suc n) ss ++ equations_r active (suc n + size_s ss) rest)
      (region-equations n active i h ss p a.0 a.1)
      (all_append ProperQ (equations_s false n (suc n) ss) (equations_r active (suc n + size_s ss) rest) (equations-s false n (suc n) ss a.1) (equations-r active (suc n + size_s ss) rest p a.2))

names-proper : (ss : ResolvedStates) → ProperS ss → All Allowed (names_of ss)
unfolding names_of ProperS All
names-proper s_nil a = tt
names-proper (s_cons s es ts rs rest) a = (a.0, names-proper rest a.4)

region-locals : (m : Name) (n : ℕ) → Allowed m → All ProperPort (region_locals m n)
unfolding region_locals All
region-locals m n h =
    let t = named-proper (enum_name m n) (enum-allowed m n h) in
    (record { name = state-allowed n; ty = t }, (record { name = next-allowed n; ty = t }, tt))

mutual
  unfolding locals_s locals_r All

  locals-s : (m : Name) (n : ℕ) (ss : ResolvedStates) → Allowed m → All ProperPort (locals_s m n ss)
  locals-s m n s_nil h = tt
  locals-s m n (s_cons s es ts rs rest) h = all_append ProperPort (locals_r m n rs) (locals_s m (n + size_r rs) rest) (locals-r m n rs h) (locals-s m (n + size_r rs) rest h)

  locals-r : (m : Name) (n : ℕ) (rs : ResolvedRegions) → Allowed m → All ProperPort (locals_r m n rs)
  locals-r m n r_nil h = tt
  locals-r m n (r_cons i b ss rest) h =
      all_append ProperPort (region_locals m n) ((record { name = active_var n; ty = t_bool } ∷ []) ++ (locals_s m (suc n) ss ++ locals_r m (suc n + size_s ss) rest)) (region-locals m n h)
      (record { name = active-allowed n; ty = bool-proper }, all_append ProperPort (locals_s m (suc n) ss) (locals_r m (suc n + size_s ss) rest) (locals-s m (suc n) ss h) (locals-r m (suc n + size_s ss) rest h))

mutual
  unfolding enums_s enums_r ProperS ProperR All

  enums-s : (m : Name) (n : ℕ) (ss : ResolvedStates) → Allowed m → ProperS ss → All ProperEnum (enums_s m n ss)
  enums-s m n s_nil h a = tt
  enums-s m n (s_cons s es ts rs rest) h a = all_append ProperEnum (enums_r m n rs) (enums_s m (n + size_r rs) rest) (enums-r m n rs h a.3) (enums-s m (n + size_r rs) rest h a.4)

  enums-r : (m : Name) (n : ℕ) (rs : ResolvedRegions) → Allowed m → ProperR rs → All ProperEnum (enums_r m n rs)
  enums-r m n r_nil h a = tt
  enums-r m n (r_cons i b ss rest) h a = (
    record { name = enum-allowed m n h; variants = names-proper ss a.1 },
    all_append ProperEnum (enums_s m (suc n) ss) (enums_r m (suc n + size_s ss) rest) (enums-s m (suc n) ss h a.1) (enums-r m (suc n + size_s ss) rest h a.2),
  )

own-proper : (o : Name) (es : List Equation) → All ProperQ es → Maybe ProperE (own_value o es)
unfolding own_value All Maybe
own-proper o [] a = tt
own-proper o (e ∷ es) a = maybe-cond ProperE (is_only o e.lhs) (some e.rhs) (own_value o es) a.0.rhs (own-proper o es a.1)

default-proper : (t : Ty) → ProperE (default_expr_for_type t)
unfolding default_expr_for_type ProperE LegalLit
default-proper t_bool = tt
default-proper t_int8 = omega arith
default-proper t_int16 = omega arith
default-proper t_int32 = omega arith
default-proper t_int64 = omega arith
default-proper t_uint8 = omega arith
default-proper t_uint16 = omega arith
default-proper t_uint32 = omega arith
default-proper t_uint64 = omega arith
default-proper t_float32 = omega arith
default-proper t_float64 = omega arith
default-proper t_char = omega arith
default-proper (t_array n t) = omega arith
default-proper (t_named n) = omega arith

from-proper : (x : Option Expr) (d : Expr) → Maybe ProperE x → ProperE d → ProperE (from_option x d)
unfolding from_option Maybe
from-proper none d h k = k
from-proper (some e) d h k = h

cond-expr : (b : Bool) (x y : Expr) → ProperE x → ProperE y → ProperE (cond b x y)
cond-expr true x y h k = h
cond-expr false x y h k = k

mutual
  unfolding value_s value_r ProperS ProperR

  value-s : (o : Name) (d : Expr) (p n : ℕ) (ss : ResolvedStates) → ProperE d → ProperS ss → ProperE (value_s o d p n ss)
  value-s o d p n s_nil h a = h
  value-s o d p n (s_cons s es ts rs rest) h a =
      or-expr (is_name (state_var p) s) (value_r o d (own_value o es) n rs) rest (value_s o d p (n + size_r rs) rest)
      (is-expr (state_var p) s (state-allowed p) a.0) (value-r o d (own_value o es) n rs h (own-proper o es a.1) a.3) (value-s o d p (n + size_r rs) rest h a.4)

  value-r : (o : Name) (d : Expr) (own : Option Expr) (n : ℕ) (rs : ResolvedRegions) → ProperE d → Maybe ProperE own → ProperR rs → ProperE (value_r o d own n rs)
  value-r o d own n r_nil h k a = from-proper own d k h
  value-r o d own n (r_cons i b ss rest) h k a =
      cond-expr (all_states_cover o ss) (value_s o d n (suc n) ss) (value_r o d own (suc n + size_s ss) rest) (value-s o d n (suc n) ss h a.1) (value-r o d own (suc n + size_s ss) rest h k a.2)

output-equations : (m : ResolvedMachine) (ps : List Port) → ProperMachine m → All ProperPort ps → All ProperQ (output_equations m ps)
unfolding output_equations All
output-equations m [] o a = tt
output-equations m (p ∷ ps) o a = (
  record { lhs = one_left p.name a.0.name; rhs = value-s p.name (default_expr_for_type p.ty) 0 1 m.states (default-proper p.ty) o.states },
  output-equations m ps o a.1,
)

pub equations-of-proper : (m : ResolvedMachine) → ProperMachine m → All ProperQ (equations_of m)
unfolding equations_of
equations-of-proper m o =
    all_append ProperQ (top_equations m.initial m.states) (equations_s true 0 1 m.states ++ output_equations m m.outputs) (top-equations m.initial m.states o.initial o.states)
    (all_append ProperQ (equations_s true 0 1 m.states) (output_equations m m.outputs) (equations-s true 0 1 m.states o.states) (output-equations m m.outputs o o.outputs))

pub enums-of-proper : (m : ResolvedMachine) → ProperMachine m → All ProperEnum (enums_of m)
unfolding enums_of All
enums-of-proper m o = (record { name = enum-allowed m.name 0 o.name; variants = names-proper m.states o.states }, enums-s m.name 1 m.states o.name o.states)

pub locals-of-proper : (m : ResolvedMachine) → ProperMachine m → All ProperPort (locals_of m)
unfolding locals_of
locals-of-proper m o =
    all_append ProperPort m.locals (region_locals m.name 0 ++ locals_s m.name 1 m.states) o.locals
    (all_append ProperPort (region_locals m.name 0) (locals_s m.name 1 m.states) (region-locals m.name 0 o.name) (locals-s m.name 1 m.states o.name))
