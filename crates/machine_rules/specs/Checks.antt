-- What is refused of a resolved machine, in order; the first is its refusal.
use Rattle.std.specs.Prelude.{List, [], ◌∷◌, ◌++◌, Bool, true, false, cond}
use Rattle.std.proofs.Math.Option.{Option, none, some}
use Rattle.pack_rules.specs.Names.{Name, member}
use Rattle.pack_rules.specs.Syntax.{Port, Transition}
use Rattle.machine_rules.specs.Resolved.{ResolvedMachine, ResolvedRegions, ResolvedStates, r_cons, r_nil, s_cons, s_nil}
use Rattle.machine_rules.specs.Lower.{is_some, names_of, own_value, some_region_covers}
use Rattle.pack_rules.specs.Report.{Refusal, as_refusal, first_of}
use Rattle.machine_rules.specs.Refusals.{duplicate_state, no_states, unassigned, unknown_initial, unknown_target}

-- no states at the top
unfoldable pub check_no_states : Name → ResolvedStates → Option Refusal
check_no_states m s_nil = some (no_states m)
check_no_states m (s_cons s es ts rs rest) = none

-- a name that stands a second time, over the tree in preorder
unfoldable mutual
  pub collect_state_names : ResolvedStates → List Name
  collect_state_names s_nil = []
  collect_state_names (s_cons s es ts rs rest) = s ∷ (collect_region_names rs ++ collect_state_names rest)

  pub collect_region_names : ResolvedRegions → List Name
  collect_region_names r_nil = []
  collect_region_names (r_cons i h ss rest) = collect_state_names ss ++ collect_region_names rest

-- Check, DuplicateState: of names in order the first that is among those before it
unfoldable pub repeated : List Name → List Name → Option Name
repeated seen [] = none
repeated seen (n ∷ ns) = elim (member n seen) [ true ↦ some n | false ↦ repeated (n ∷ seen) ns ]

-- per region its initial; for each state its targets, then its regions
unfoldable pub bad_initial : Name → Name → List Name → Option Refusal
bad_initial m i ns = cond (member i ns) none (some (unknown_initial m i))

-- Check, UnknownTarget: a state's first transition that leads to none of the region's states
unfoldable pub bad_target : Name → Name → List Name → List Transition → Option Refusal
bad_target m s ns [] = none
bad_target m s ns (t ∷ ts) = elim (member t.target ns) [ true ↦ bad_target m s ns ts | false ↦ some (unknown_target m s t.target) ]

-- Check: of the states of a region, whose names are `ns`, targets and then what is inside, state by state; of regions in order the initial and then
-- the states
unfoldable mutual
  pub validate_states : Name → List Name → ResolvedStates → Option Refusal
  validate_states m ns s_nil = none
  validate_states m ns (s_cons s es ts rs rest) = first_of (bad_target m s ns ts) (first_of (validate_regions m rs) (validate_states m ns rest))

  pub validate_regions : Name → ResolvedRegions → Option Refusal
  validate_regions m r_nil = none
  validate_regions m (r_cons i h ss rest) = first_of (bad_initial m i (names_of ss)) (first_of (validate_states m (names_of ss) ss) (validate_regions m rest))

-- the first state that does not give an output; with regions, the first region's such state
unfoldable pub unless_covered : Bool → Option Name → Option Name
unless_covered true e = none
unless_covered false e = e

-- a region's error, unless a region after it covers
unfoldable pub unless_other : Option Name → Bool → Option Name
unless_other none b = none
unless_other (some s) b = cond b none (some s)

-- Check, Covered: the state to report for an output. Without regions it is the state itself, with regions the first region's
unfoldable mutual
  pub require_cover_states : Name → ResolvedStates → Option Name
  require_cover_states o s_nil = none
  require_cover_states o (s_cons s es ts rs rest) = first_of (unless_covered (is_some (own_value o es)) (require_cover_regions o s rs)) (require_cover_states o rest)

  pub require_cover_regions : Name → Name → ResolvedRegions → Option Name
  require_cover_regions o s r_nil = some s
  require_cover_regions o s (r_cons i h ss rest) = unless_other (require_cover_states o ss) (some_region_covers o rest)

-- Check, the last one: each output covered, in the order of ports; OutputUnassigned
unfoldable pub uncovered : Name → ResolvedStates → List Port → Option Refusal
uncovered m ss [] = none
uncovered m ss (p ∷ ps) = first_of (as_refusal (λ s. unassigned m p.name s) (require_cover_states p.name ss)) (uncovered m ss ps)

-- Check: no states, a name twice, initial and targets from the top region down, outputs; the first refusal counts
unfoldable pub refusal_of : ResolvedMachine → Option Refusal
refusal_of m =
    first_of (check_no_states m.name m.states)
    (first_of (as_refusal (λ n. duplicate_state m.name n) (repeated [] (collect_state_names m.states)))
    (first_of (bad_initial m.name m.initial (names_of m.states))
    (first_of (validate_states m.name (names_of m.states) m.states)
    (uncovered m.name m.states m.outputs))))
