-- Two branches that count their own visits, as a pack: the run of run_rules' facts satisfies what its lowering writes.
use mathlib.Core.List.{List, [], ◌∷◌}
use mathlib.Core.Bool.{true}
use mathlib.Core.Path.{◌≡◌, refl}
use native.Mathlib.Omega.{arith}
use Rattle.wire.specs.Decimal.{decimal, digits}
use Rattle.pack_rules.specs.Names.{eq_name, member}
use Rattle.pack_rules.specs.Syntax.{Equation, Node, Package, e_arrow, e_const, e_pre, e_var, k_operator, l_int, t_bool, t_int32}
use Rattle.machine_rules.specs.Lower.{is_only, own_value}
use Rattle.activation_rules.specs.LastCalls.{last_name}
use Rattle.activation_rules.specs.RewriteLast.{conditions_of, rewrite_last}
use Rattle.activation_rules.specs.MadeNames.{act_prefix, branch, clock_var, flag_var, last_infix, last_var, made_name, none_var, sample_var, tag, value_var}
use Rattle.run_rules.specs.DemandPremises.{enum_values}
use Rattle.run_rules.specs.Run.{eval, if_value}
use Rattle.run_rules.specs.Scopes.{OutputsGiven, choice, scope_in}
use Rattle.run_rules.specs.Visits.{scope_is, side_of, visit_value}
use Rattle.run_rules.proofs.ChartFacts.{o}
use Rattle.run_rules.proofs.PremisesTested.{fed, truth}
use Rattle.run_rules.proofs.RunTables.{adding, cell_at, lit_value, look, numbers, open_run, sometimes, total, truths}
use Rattle.run_rules.proofs.Tested.{is_present}
use Rattle.run_rules.proofs.VisitFacts.{F, a, act, counts, p, port, q, run}
use Rattle.runs.specs.Claim.{may_read}
use Rattle.runs.specs.OwnCycles.{ScopesRun}
use Rattle.runs.proofs.Computing.{act_block, act_premises, activations_number, holding, owner_of, reading, satisfying, scope_premises, small}
use Rattle.runs.proofs.Using.{ActInstance, act-instance, scopes-instance}

unfoldable pub owner : Node
owner = record { name = F; kind = k_operator; inputs = port t_bool p ∷ port t_bool q ∷ []; outputs = port t_int32 o ∷ []; locals = []; equations = [] }

unfoldable pub held : Package
unfolding last_name
held = record { names = F ∷ a ∷ p ∷ q ∷ o ∷ last_name ∷ []; enums = []; nodes = owner ∷ []; machines = []; activations = act ∷ []; origins = [] }

-- the holder starts from the initial that is given
unfoldable pub holders : List Equation
holders = record { lhs = last_var a o ∷ []; rhs = e_arrow (e_const (l_int 7)) (e_pre (e_var o)) } ∷ []

pub visits-instance : ActInstance held act owner (port t_int32 (last_var a o) ∷ []) holders run 8
unfolding held owner act holders run open_run adding lit_value total look cell_at truths numbers sometimes if_value is_present last_name last_var last_infix flag_var none_var clock_var sample_var value_var tag made_name act_prefix decimal digits small reading activations_number owner_of holding act_premises satisfying act_block member enum_values
visits-instance = record { only = refl; bytes = refl; reads = refl; answers = refl; owner = refl; holds = refl; enums = λ x. refl; premises = refl; satisfied = refl }

pub visits-run : OutputsGiven run 8 (fed run) act (may_read act owner (port t_int32 (last_var a o) ∷ [])) act.outputs
visits-run = act-instance held act owner (port t_int32 (last_var a o) ∷ []) holders run 8 visits-instance

-- the scopes on their own cycles
visits-allowed : scope_premises held act owner ≡ true
unfolding held act owner last_name scope_premises
visits-allowed = refl

pub visits-scopes : ScopesRun run 8 (fed run) [] act owner
unfolding held
visits-scopes = scopes-instance held act owner (port t_int32 (last_var a o) ∷ []) holders run 8 visits-instance visits-allowed

-- read off the claim: in cycle 7, the third of the second branch, the output is what that branch counts over its own cycles
third-visit : run.at o 7 ≡ visit_value run 8 (fed run) act (branch 1) counts 7
unfolding act run open_run adding lit_value total look cell_at truths numbers sometimes is_present fed truth eval scope_in choice conditions_of rewrite_last side_of scope_is own_value is_only last_name last_var last_infix flag_var none_var clock_var sample_var value_var tag made_name act_prefix decimal digits eq_name member
third-visit = visits-scopes.outputs.0.runs (branch 1) counts refl 7 (omega arith) refl
