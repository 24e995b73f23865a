-- Holders, with their types and initial values, may be written.
use native.Mathlib.Omega.{arith}
use mathlib.Core.List.{List, [], ◌∷◌, ◌++◌}
use mathlib.Core.Bool.{cond}
use mathlib.Core.Option.{Option, none, some}
use Rattle.wire.specs.Lists.{All}
use Rattle.pack_rules.specs.Legal.{Allowed, LegalLit}
use Rattle.pack_rules.specs.Names.{Name, eq_name}
use Rattle.pack_rules.specs.Report.{first_of}
use Rattle.pack_rules.specs.Syntax.{Enum, Equation, Expr, Port, Ty, e_arrow, e_pre, e_var, t_array, t_bool, t_char, t_float32, t_float64, t_int16, t_int32, t_int64, t_int8, t_named, t_uint16, t_uint32, t_uint64, t_uint8}
use Rattle.pack.proofs.Tables.{all_snoc}
use Rattle.activation_rules.specs.Defaults.{as_variable, default_of, first_name, first_variant}
use Rattle.activation_rules.specs.Defines.{eqn}
use Rattle.activation_rules.specs.Holders.{Holding, cons_holder, holder_equation, holder_port, holders_made, make_holders, refused, with_init, with_type}
use Rattle.activation_rules.specs.MadeNames.{last_var}
use Rattle.activation_rules.specs.Sought.{Sought}
use Rattle.activation_rules.specs.Types.{first_typed, last_typed, or_bool, sample_type, typed, value_type}
use Rattle.machines.proofs.RefusalNames.{Maybe, maybe-first}
use Rattle.runs.proofs.Letters.{Lettered, last-allowed}
use Rattle.runs.proofs.Proper.{ProperE, ProperEnum, ProperPort, ProperQ, ProperTy}
use Rattle.runs.proofs.ProperLasts.{ProperHolder}
use Rattle.runs.proofs.ProperMade.{bool-proper, maybe-cond}
use Rattle.runs.proofs.ProperRewritten.{eqn-proper}

-- types and initial values
last-typed : (ps : List Port) (n : Name) → All ProperPort ps → Maybe ProperTy (last_typed ps n)
unfolding last_typed All Maybe
last-typed [] n a = tt
last-typed (p ∷ ps) n a = maybe-first ProperTy (last_typed ps n) (cond (eq_name p.name n) (some p.ty) none) (last-typed ps n a.1) (maybe-cond ProperTy (eq_name p.name n) (some p.ty) none a.0.ty tt)

first-typed : (ps : List Port) (n : Name) → All ProperPort ps → Maybe ProperTy (first_typed ps n)
unfolding first_typed All Maybe
first-typed [] n a = tt
first-typed (p ∷ ps) n a = maybe-cond ProperTy (eq_name p.name n) (some p.ty) (first_typed ps n) a.0.ty (first-typed ps n a.1)

typed-proper : (env outs : List Port) (n : Name) → All ProperPort env → All ProperPort outs → Maybe ProperTy (typed env outs n)
unfolding typed
typed-proper env outs n h k = maybe-first ProperTy (last_typed env n) (first_typed outs n) (last-typed env n h) (first-typed outs n k)

or_bool_lem : (t : Option Ty) → Maybe ProperTy t → ProperTy (or_bool t)
unfolding or_bool Maybe
or_bool_lem none h = bool-proper
or_bool_lem (some t) h = h

pub sample-type : (env outs : List Port) → All ProperPort env → All ProperPort outs → (n : Name) → ProperTy (sample_type env outs n)
unfolding sample_type
sample-type env outs h k n = or_bool_lem (typed env outs n) (typed-proper env outs n h k)

pub value-type : (env outs : List Port) → All ProperPort env → All ProperPort outs → (n : Name) → ProperTy (value_type env outs n)
unfolding value_type
value-type env outs h k n = or_bool_lem (first_of (first_typed outs n) (last_typed env n)) (maybe-first ProperTy (first_typed outs n) (last_typed env n) (first-typed outs n k) (last-typed env n h))

first-name : (ns : List Name) → All Allowed ns → Maybe Allowed (first_name ns)
unfolding first_name All Maybe
first-name [] a = tt
first-name (n ∷ ns) a = a.0

first-variant : (es : List Enum) (n : Name) → All ProperEnum es → Maybe Allowed (first_variant es n)
unfolding first_variant All Maybe
first-variant [] n a = tt
first-variant (e ∷ es) n a = maybe-first Allowed (first_variant es n) (cond (eq_name e.name n) (first_name e.variants) none) (first-variant es n a.1) (maybe-cond Allowed (eq_name e.name n) (first_name e.variants) none (first-name e.variants a.0.variants) tt)

as-variable : (x : Option Name) → Maybe Allowed x → Maybe ProperE (as_variable x)
unfolding as_variable Maybe ProperE
as-variable none h = tt
as-variable (some v) h = h

start-proper : (es : List Enum) (t : Ty) → All ProperEnum es → Maybe ProperE (default_of es t)
unfolding default_of Maybe ProperE LegalLit
start-proper es t_bool a = tt
start-proper es t_int8 a = omega arith
start-proper es t_int16 a = omega arith
start-proper es t_int32 a = omega arith
start-proper es t_int64 a = omega arith
start-proper es t_uint8 a = omega arith
start-proper es t_uint16 a = omega arith
start-proper es t_uint32 a = omega arith
start-proper es t_uint64 a = omega arith
start-proper es t_float32 a = omega arith
start-proper es t_float64 a = omega arith
start-proper es t_char a = omega arith
start-proper es (t_array n t) a = tt
start-proper es (t_named n) a = as-variable (first_variant es n) (first-variant es n a)

unfoldable pub ProperHolding : Holding → Type 0
ProperHolding (refused r) = Unit {0}
ProperHolding (holders_made ps es) = All ProperPort ps × All ProperQ es

also-proper : (p : Port) (e : Equation) (x : Holding) → ProperPort p → ProperQ e → ProperHolding x → ProperHolding (cons_holder p e x)
unfolding cons_holder ProperHolding All
also-proper p e (refused r) h k a = tt
also-proper p e (holders_made ps es) h k a = ((h, a.0), (k, a.1))

with-init : (a v : Name) (t : Ty) (y : Option Expr) (rest : Port → Holding) → Lettered a → Allowed v → ProperTy t → Maybe ProperE y
    → ((p : Port) → ProperPort p → ProperHolding (rest p)) → ProperHolding (with_init a v t y rest)
unfolding with_init holder_port holder_equation ProperHolding Maybe ProperE
with-init a v t none rest ha hv ht m r = tt
with-init a v t (some i) rest ha hv ht m r =
    let lv : Allowed (last_var a v) = last-allowed a v ha hv.1 in
    let p : Port = record { name = last_var a v; ty = t } in
    let o : ProperPort p = record { name = lv; ty = ht } in
    also-proper p (eqn (last_var a v) (e_arrow i (e_pre (e_var v)))) (rest p) o (eqn-proper (last_var a v) (e_arrow i (e_pre (e_var v))) lv (m, hv)) (r p o)

with-type : (es : List Enum) (a : Name) (h : Sought) (x : Option Ty) (rest : Port → Holding) → Lettered a → All ProperEnum es → ProperHolder h → Maybe ProperTy x
    → ((p : Port) → ProperPort p → ProperHolding (rest p)) → ProperHolding (with_type es a h x rest)
unfolding with_type ProperHolding Maybe
with-type es a h none rest ha he hh m r = tt
with-type es a h (some t) rest ha he hh m r =
    with-init a h.var t (first_of h.init (default_of es t)) rest ha hh.var m (maybe-first ProperE h.init (default_of es t) hh.init (start-proper es t he)) r

pub hold-proper : (es : List Enum) (a : Name) (env outs : List Port) (hs : List Sought) → Lettered a → All ProperEnum es → All ProperPort env → All ProperPort outs → All ProperHolder hs → ProperHolding (make_holders es a env outs hs)
unfolding make_holders ProperHolding All
hold-proper es a env outs [] ha he hn ho hh = (tt, tt)
hold-proper es a env outs (h ∷ hs) ha he hn ho hh =
    with-type es a h (typed env outs h.var) (λ p. make_holders es a (env ++ (p ∷ [])) outs hs) ha he hh.0 (typed-proper env outs h.var hn ho)
    (λ p o. hold-proper es a (env ++ (p ∷ [])) outs hs ha he (all_snoc ProperPort env p hn o) ho hh.1)
