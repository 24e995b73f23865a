-- What a machine that is not refused has: states in every region, and states that all give its outputs.
use mathlib.Core.List.{List, ◌∷◌}
use mathlib.Core.Bool.{true}
use mathlib.Core.Option.{Option, none, some, some-ne-none}
use mathlib.Core.Path.{◌≡◌, refl, sym, ap, ◌∙◌}
use Rattle.pack_rules.specs.Names.{Name, member}
use Rattle.pack_rules.specs.Syntax.{Port}
use Rattle.machine_rules.specs.Resolved.{ResolvedMachine, ResolvedRegions, ResolvedStates, r_cons, r_nil, s_cons, s_nil}
use Rattle.pack_rules.specs.Report.{Refusal, as_refusal, first_of}
use Rattle.machine_rules.specs.Refusals.{unassigned}
use Rattle.machine_rules.specs.Lower.{all_states_cover, names_of}
use Rattle.machine_rules.specs.Checks.{bad_initial, bad_target, check_no_states, refusal_of, require_cover_states, uncovered, validate_regions, validate_states}
use Rattle.machines.specs.ValueAt.{Peopled, WholeR, WholeS}
use Rattle.machines.proofs.Covered.{is_none, none-states}

pub first-none : {A : Type 0} (a b : Option A) → first_of a b ≡ none → (a ≡ none) × (b ≡ none)
unfolding first_of
first-none none b e = (refl, e)
first-none (some x) b e = absurd (some-ne-none x e)

pub refusal-none : {A : Type 0} (f : A → Refusal) (a : Option A) → as_refusal f a ≡ none → a ≡ none
unfolding as_refusal
refusal-none f none e = refl
refusal-none f (some x) e = absurd (some-ne-none (f x) e)

-- the top, a region with a known initial state
top-peopled : (m : Name) (ss : ResolvedStates) → check_no_states m ss ≡ none → Peopled ss
unfolding check_no_states Peopled
top-peopled m s_nil e = absurd (some-ne-none _ e)
top-peopled m (s_cons s es ts rs rest) e = tt

initial-peopled : (m i : Name) (ss : ResolvedStates) → bad_initial m i (names_of ss) ≡ none → Peopled ss
unfolding bad_initial names_of member Peopled
initial-peopled m i s_nil e = absurd (some-ne-none _ e)
initial-peopled m i (s_cons s es ts rs rest) e = tt

mutual
  unfolding validate_states validate_regions WholeS WholeR

  whole-states : (m : Name) (ns : List Name) (ss : ResolvedStates) → validate_states m ns ss ≡ none → WholeS ss
  whole-states m ns s_nil e = tt
  whole-states m ns (s_cons s es ts rs rest) e =
      let a = first-none (bad_target m s ns ts) _ e in
      let b = first-none (validate_regions m rs) (validate_states m ns rest) a.1 in
      (whole-regions m rs b.0, whole-states m ns rest b.1)

  whole-regions : (m : Name) (rs : ResolvedRegions) → validate_regions m rs ≡ none → WholeR rs
  whole-regions m r_nil e = tt
  whole-regions m (r_cons i h ss rest) e =
      let a = first-none (bad_initial m i (names_of ss)) _ e in
      let b = first-none (validate_states m (names_of ss) ss) (validate_regions m rest) a.1 in
      (initial-peopled m i ss a.0, whole-states m (names_of ss) ss b.0, whole-regions m rest b.1)

-- an output that no state misses
pub output-covered : (m : Name) (ss : ResolvedStates) (p : Port) (ps : List Port) → uncovered m ss (p ∷ ps) ≡ none → (all_states_cover p.name ss ≡ true) × (uncovered m ss ps ≡ none)
unfolding uncovered is_none
output-covered m ss p ps e =
    let a = first-none (as_refusal (λ s. unassigned m p.name s) (require_cover_states p.name ss)) (uncovered m ss ps) e in
    (sym (none-states p.name ss) ∙ ap is_none (refusal-none _ (require_cover_states p.name ss) a.0), a.1)

pub record Accepted (x : ResolvedMachine) : Type 0 where
  pub peopled : Peopled x.states
  pub whole : WholeS x.states
  pub covered : uncovered x.name x.states x.outputs ≡ none

pub accepted : (x : ResolvedMachine) → refusal_of x ≡ none → Accepted x
unfolding refusal_of
accepted x e =
    let a = first-none (check_no_states x.name x.states) _ e in
    let b = first-none _ _ a.1 in
    let c = first-none (bad_initial x.name x.initial (names_of x.states)) _ b.1 in
    let d = first-none (validate_states x.name (names_of x.states) x.states) _ c.1 in
    record { peopled = top-peopled x.name x.states a.0; whole = whole-states x.name (names_of x.states) x.states d.0; covered = d.1 }
