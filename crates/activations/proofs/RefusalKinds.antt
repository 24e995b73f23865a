-- The kinds of refusals are bytes.
use Prim.Native.Nat.{◌<◌}
use native.Mathlib.Omega.{arith}
use mathlib.Core.List.{List, [], ◌∷◌, ◌++◌}
use mathlib.Core.Bool.{Bool, true, false, cond}
use mathlib.Core.Option.{Option, none, some}
use Rattle.pack_rules.specs.Names.{Name}
use Rattle.pack_rules.specs.Report.{Refusal, as_refusal, first_of}
use Rattle.pack_rules.specs.Syntax.{Activation, Branch, Enum, Equation, Expr, Node, Port, Ty}
use Rattle.machine_rules.specs.Lower.{is_some, own_value}
use Rattle.activation_rules.specs.BadLasts.{any_bad_last}
use Rattle.activation_rules.specs.Refusals.{duplicate_branch, empty_left, last_args, last_needs_init, last_unknown, no_branches, no_outputs, output_unassigned, unknown_owner}
use Rattle.activation_rules.specs.Checks.{branchless, checks, else_name, in_branches, in_scopes, misuse, outputless, unless_assigned}
use Rattle.activation_rules.specs.EmptyLeft.{has_empty_left}
use Rattle.activation_rules.specs.Holders.{Holding, cons_holder, holders_made, make_holders, refused, with_init, with_type}
use Rattle.activations.specs.Joining.{fate_in}
use Rattle.activation_rules.specs.Lower.{Lowered, lowered, make, makes, refuse, unless, with_holders}
use Rattle.activation_rules.specs.Sought.{Sought, expressions, found}
use Rattle.activation_rules.specs.Types.{typed, variables}
use Rattle.activation_rules.specs.Defaults.{default_of}

unfoldable KindIn : Option Refusal → Type 0
KindIn none = Unit {0}
KindIn (some r) = r.kind < 256

unfoldable HoldingKind : Holding → Type 0
HoldingKind (refused r) = r.kind < 256
HoldingKind (holders_made ps es) = Unit {0}

unfoldable pub LoweredKind : Lowered → Type 0
LoweredKind (refuse r) = r.kind < 256
LoweredKind (make ls es) = Unit {0}

-- checks
first_kind : (a b : Option Refusal) → KindIn a → KindIn b → KindIn (first_of a b)
unfolding first_of
first_kind none b h k = k
first_kind (some r) b h k = h

branchless-kind : (a : Name) (bs : List Branch) → KindIn (branchless a bs)
unfolding KindIn branchless no_branches
branchless-kind a [] = omega arith
branchless-kind a (b ∷ bs) = tt

outputless-kind : (a : Name) (ps : List Port) → KindIn (outputless a ps)
unfolding KindIn outputless no_outputs
outputless-kind a [] = omega arith
outputless-kind a (p ∷ ps) = tt

repeated-kind : (a : Name) (x : Option Name) → KindIn (as_refusal (λ b. duplicate_branch a b) x)
unfolding KindIn as_refusal duplicate_branch
repeated-kind a none = tt
repeated-kind a (some b) = omega arith

else-kind : (b : Bool) (r : Refusal) → r.kind < 256 → KindIn (cond b none (some r))
unfolding KindIn
else-kind true r h = tt
else-kind false r h = h

then-kind : (b : Bool) (r : Refusal) → r.kind < 256 → KindIn (cond b (some r) none)
unfolding KindIn
then-kind true r h = h
then-kind false r h = tt

unassigned-kind : (a o b : Name) (es : List Equation) → KindIn (unless_assigned a o b es)
unfolding unless_assigned output_unassigned
unassigned-kind a o b es = else-kind (is_some (own_value o es)) (output_unassigned a o b) (omega arith)

branches-kind : (a o : Name) (bs : List Branch) → KindIn (in_branches a o bs)
unfolding KindIn in_branches
branches-kind a o [] = tt
branches-kind a o (b ∷ bs) = first_kind _ _ (unassigned-kind a o b.name b.equations) (branches-kind a o bs)

scopes-kind : (A : Activation) (ps : List Port) → KindIn (in_scopes A ps)
unfolding KindIn in_scopes
scopes-kind A [] = tt
scopes-kind A (p ∷ ps) = first_kind _ _ (branches-kind A.name p.name A.branches) (first_kind _ _ (unassigned-kind A.name p.name else_name A.else_equations) (scopes-kind A ps))

misuse-kind : (A : Activation) → KindIn (misuse A)
unfolding misuse last_args
misuse-kind A = then-kind (any_bad_last (expressions A)) (last_args A.name) (omega arith)

checks-kind : (A : Activation) → KindIn (checks A)
unfolding checks
checks-kind A =
    first_kind _ _ (branchless-kind A.name A.branches)
    (first_kind _ _ (outputless-kind A.name A.outputs)
    (first_kind _ _ (repeated-kind A.name _)
    (first_kind _ _ (scopes-kind A A.outputs) (misuse-kind A))))

-- holders
also-kind : (p : Port) (e : Equation) (h : Holding) → HoldingKind h → HoldingKind (cons_holder p e h)
unfolding HoldingKind cons_holder
also-kind p e (refused r) k = k
also-kind p e (holders_made ps es) k = tt

init-kind : (a v : Name) (t : Ty) (x : Option Expr) (rest : Port → Holding) → ((p : Port) → HoldingKind (rest p)) → HoldingKind (with_init a v t x rest)
unfolding HoldingKind with_init last_needs_init
init-kind a v t none rest k = omega arith
init-kind a v t (some i) rest k = also-kind _ _ _ (k _)

type-kind : (es : List Enum) (a : Name) (h : Sought) (x : Option Ty) (rest : Port → Holding) → ((p : Port) → HoldingKind (rest p)) → HoldingKind (with_type es a h x rest)
unfolding HoldingKind with_type last_unknown
type-kind es a h none rest k = omega arith
type-kind es a h (some t) rest k = init-kind a h.var t (first_of h.init (default_of es t)) rest k

hold-kind : (es : List Enum) (a : Name) (env outs : List Port) (hs : List Sought) → HoldingKind (make_holders es a env outs hs)
unfolding HoldingKind make_holders
hold-kind es a env outs [] = tt
hold-kind es a env outs (h ∷ hs) = type-kind es a h (typed env outs h.var) (λ p. make_holders es a (env ++ (p ∷ [])) outs hs) (λ p. hold-kind es a (env ++ (p ∷ [])) outs hs)

holders-kind : (A : Activation) (env : List Port) (h : Holding) → HoldingKind h → LoweredKind (with_holders A env h)
unfolding HoldingKind LoweredKind with_holders empty_left makes
holders-kind A env (refused r) k = k
holders-kind A env (holders_made ps es) k = go (has_empty_left A)
  where
    go : (b : Bool) → LoweredKind (cond b (refuse (empty_left A.name)) (makes A (env ++ ps) ps es))
    go true = omega arith
    go false = tt

unless-kind : (x : Option Refusal) (l : Lowered) → KindIn x → LoweredKind l → LoweredKind (unless x l)
unfolding KindIn LoweredKind unless
unless-kind none l h k = k
unless-kind (some r) l h k = h

-- THE LAW
pub fate-kind : (es : List Enum) (A : Activation) (o : Option Node) → LoweredKind (fate_in es A o)
unfolding LoweredKind fate_in lowered unknown_owner
fate-kind es A none = omega arith
fate-kind es A (some n) = unless-kind (checks A) _ (checks-kind A) (holders-kind A (variables n) _ (hold-kind es A.name (variables n) A.outputs (found (expressions A) [])))
