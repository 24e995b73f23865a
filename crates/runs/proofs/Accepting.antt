-- The checks as tests of truth, without the order of errors.
use mathlib.Core.List.{List, [], ◌∷◌}
use mathlib.Core.Bool.{Bool, true, false, not, ◌&&◌, ◌||◌}
use Rattle.pack_rules.specs.Names.{Name, member}
use Rattle.pack_rules.specs.Syntax.{Activation, Branch, Equation, Port, Transition}
use Rattle.machine_rules.specs.Resolved.{ResolvedMachine, ResolvedRegions, ResolvedStates, r_cons, r_nil, s_cons, s_nil}
use Rattle.machine_rules.specs.Checks.{collect_state_names}
use Rattle.machine_rules.specs.Lower.{all_states_cover, is_only, names_of}

-- the checks: initial states and targets are states of their region; each output is covered; no name twice
unfoldable pub all_targets : List Name → List Transition → Bool
all_targets ns [] = true
all_targets ns (t ∷ ts) = member t.target ns && all_targets ns ts

unfoldable mutual
  pub valid_s : List Name → ResolvedStates → Bool
  valid_s ns s_nil = true
  valid_s ns (s_cons s es ts rs rest) = all_targets ns ts && (valid_r rs && valid_s ns rest)

  pub valid_r : ResolvedRegions → Bool
  valid_r r_nil = true
  valid_r (r_cons i h ss rest) = (member i (names_of ss) && valid_s (names_of ss) ss) && valid_r rest

unfoldable pub covers_all : ResolvedStates → List Port → Bool
covers_all ss [] = true
covers_all ss (p ∷ ps) = all_states_cover p.name ss && covers_all ss ps

unfoldable pub distinct : List Name → Bool
distinct [] = true
distinct (n ∷ ns) = not (member n ns) && distinct ns

unfoldable pub accepted : ResolvedMachine → Bool
accepted m = (distinct (collect_state_names m.states) && (member m.initial (names_of m.states) && valid_s (names_of m.states) m.states)) && covers_all m.states m.outputs

-- the checks: a branch, an output, and each scope assigns each output
unfoldable pub assigns : Name → List Equation → Bool
assigns o [] = false
assigns o (e ∷ es) = is_only o e.lhs || assigns o es

unfoldable pub all_assign : Name → List Branch → Bool
all_assign o [] = true
all_assign o (b ∷ bs) = assigns o b.equations && all_assign o bs

unfoldable pub outputs_assigned : List Branch → List Equation → List Port → Bool
outputs_assigned bs others [] = true
outputs_assigned bs others (p ∷ ps) = (all_assign p.name bs && assigns p.name others) && outputs_assigned bs others ps

unfoldable pub nonempty : List Branch → Bool
nonempty [] = false
nonempty (b ∷ bs) = true

unfoldable pub act_accepted : Activation → Bool
act_accepted A = nonempty A.branches && outputs_assigned A.branches A.else_equations A.outputs
