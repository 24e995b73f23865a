-- Counts: a local stands for each equation that is made, but for those of the outputs.
use Prim.Native.Nat.{ℕ, suc, ◌+◌}
use native.Mathlib.Omega.{arith}
use mathlib.Core.List.{List, [], ◌∷◌, ◌++◌}
use mathlib.Core.Option.{Option, none, some}
use mathlib.Core.Path.{◌≡◌, refl, ap}
use lib.ListN.{length, length-append}
use Rattle.pack_rules.specs.Names.{Name}
use Rattle.pack_rules.specs.Report.{first_of}
use Rattle.pack_rules.specs.Syntax.{Activation, Branch, Enum, Equation, Expr, Port, Ty, t_bool}
use Rattle.activation_rules.specs.MadeNames.{Scope, branch, else_scope}
use Rattle.activation_rules.specs.Defines.{as_locals}
use Rattle.activation_rules.specs.Sought.{Sought}
use Rattle.activation_rules.specs.Types.{typed}
use Rattle.activation_rules.specs.Defaults.{default_of}
use Rattle.activation_rules.specs.Holders.{Holding, cons_holder, holder_equation, holder_port, holders_made, make_holders, refused, with_init, with_type}
use Rattle.activation_rules.specs.RewriteLast.{conditions_of}
use Rattle.activation_rules.specs.Flags.{flag_equations}
use Rattle.activation_rules.specs.Clocks.{guard_equations}
use Rattle.activation_rules.specs.Samples.{drop_in, sample_equations, sample_locals}
use Rattle.activation_rules.specs.Scopes.{branch_equations, branch_locals, scope_equations, scope_locals, scope_reads}
use Rattle.activation_rules.specs.Merges.{merge_equations}
use Rattle.activation_rules.specs.Lower.{act_equations, act_locals, tail_of}

-- two lists after two of the same lengths
both : {A B : Type 0} (xs us : List A) (ys vs : List B) → length xs ≡ length ys → length us ≡ length vs → length (xs ++ us) ≡ length (ys ++ vs)
both xs us ys vs p q = rw (length-append xs us) (rw (length-append ys vs) (omega (arith, p, q)))

pub locals-count : (t : Ty) (es : List Equation) → length (as_locals t es) ≡ length es
unfolding as_locals
locals-count t [] = refl
locals-count t (e ∷ es) = ap suc (locals-count t es)

pub merges-count : (a : Name) (cs : List Expr) (ps : List Port) → length (merge_equations a cs ps) ≡ length ps
unfolding merge_equations
merges-count a cs [] = refl
merges-count a cs (p ∷ ps) = ap suc (merges-count a cs ps)

pub samples-count : (f : Name → Ty) (a : Name) (n : ℕ) (s : Scope) (vs : List Name) → length (sample_locals f a s vs) ≡ length (sample_equations a n s vs)
unfolding sample_locals sample_equations
samples-count f a n s [] = refl
samples-count f a n s (v ∷ vs) = ap suc (samples-count f a n s vs)

pub scope-count : (f g : Name → Ty) (a : Name) (n : ℕ) (vars : List Name) (s : Scope) (old : List Name) (es : List Equation) → length (scope_locals f g a vars s old es) ≡ length (scope_equations a n vars s old es)
unfolding scope_locals scope_equations
scope-count f g a n vars s old [] = refl
scope-count f g a n vars s old (e ∷ es) =
    let new = drop_in old (scope_reads a vars e) in
    both (sample_locals f a s new) _ (sample_equations a n s new) _ (samples-count f a n s new) (ap suc (scope-count f g a n vars s (old ++ new) es))

pub branches-count : (f g : Name → Ty) (a : Name) (n : ℕ) (vars : List Name) (k : ℕ) (bs : List Branch) → length (branch_locals f g a vars k bs) ≡ length (branch_equations a n vars k bs)
unfolding branch_locals branch_equations
branches-count f g a n vars k [] = refl
branches-count f g a n vars k (b ∷ bs) =
    both (scope_locals f g a vars (branch k) [] b.equations) _ (scope_equations a n vars (branch k) [] b.equations) _
    (scope-count f g a n vars (branch k) [] b.equations)
    (branches-count f g a n vars (suc k) bs)

-- as many locals as equations, where nothing is refused
abbrev pub Even : Holding → Type 0
Even (refused r) = Unit {0}
Even (holders_made ps es) = length ps ≡ length es

also-even : (p : Port) (e : Equation) (h : Holding) → Even h → Even (cons_holder p e h)
unfolding cons_holder
also-even p e (refused r) x = tt
also-even p e (holders_made ps es) x = ap suc x

init-even : (a v : Name) (t : Ty) (i : Option Expr) (rest : Port → Holding) → ((p : Port) → Even (rest p)) → Even (with_init a v t i rest)
unfolding with_init
init-even a v t none rest h = tt
init-even a v t (some i) rest h = also-even (holder_port a v t) (holder_equation a v i) (rest (holder_port a v t)) (h (holder_port a v t))

type-even : (es : List Enum) (a : Name) (s : Sought) (t : Option Ty) (rest : Port → Holding) → ((p : Port) → Even (rest p)) → Even (with_type es a s t rest)
unfolding with_type
type-even es a s none rest h = tt
type-even es a s (some t) rest h = init-even a s.var t (first_of s.init (default_of es t)) rest h

pub holders-count : (es : List Enum) (a : Name) (env outs : List Port) (hs : List Sought) → Even (make_holders es a env outs hs)
unfolding make_holders
holders-count es a env outs [] = refl
holders-count es a env outs (h ∷ hs) = type-even es a h (typed env outs h.var) _ (λ p. holders-count es a (env ++ (p ∷ [])) outs hs)

-- an activation with holders `ps`, defined by `hs`
pub act-count : (f g : Name → Ty) (A : Activation) (ps : List Port) (hs : List Equation) (vars : List Name) → length ps ≡ length hs → length (act_equations A hs vars) ≡ length (act_locals f g A ps vars) + length A.outputs
unfolding act_equations act_locals
act-count f g A ps hs vars e =
    let a = A.name in
    let cs = conditions_of a A.branches in
    let n = length cs in
    let F = flag_equations a none 0 cs in
    let G = guard_equations a 1 (tail_of cs) in
    let B = branch_equations a n vars 0 A.branches in
    let E = scope_equations a n vars else_scope [] A.else_equations in
    let M = merge_equations a cs A.outputs in
    let b = branch_locals f g a vars 0 A.branches in
    let o = scope_locals f g a vars else_scope [] A.else_equations in
    omega (
      arith,
      e,
      locals-count t_bool F,
      locals-count t_bool G,
      branches-count f g a n vars 0 A.branches,
      scope-count f g a n vars else_scope [] A.else_equations,
      merges-count a cs A.outputs,
      length-append hs (F ++ (G ++ (B ++ (E ++ M)))),
      length-append F (G ++ (B ++ (E ++ M))),
      length-append G (B ++ (E ++ M)),
      length-append B (E ++ M),
      length-append E M,
      length-append ps (as_locals t_bool F ++ (as_locals t_bool G ++ (b ++ o))),
      length-append (as_locals t_bool F) (as_locals t_bool G ++ (b ++ o)),
      length-append (as_locals t_bool G) (b ++ o),
      length-append b o,
    )
