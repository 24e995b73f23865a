-- A machine without owner whose node owns another machine, as a pack: the run need satisfy its own equations only, and this one does not
-- satisfy those that follow in the node.
use mathlib.Core.List.{[], ◌∷◌}
use mathlib.Core.Bool.{false}
use mathlib.Core.Option.{none, some}
use mathlib.Core.Path.{◌≡◌, refl}
use Rattle.wire.specs.Decimal.{decimal, digits}
use Rattle.pack_rules.specs.Names.{Name}
use Rattle.pack_rules.specs.Syntax.{MachineDef, Package, def_cons, def_nil, reg_nil}
use Rattle.machine_rules.specs.Checks.{collect_state_names}
use Rattle.machine_rules.specs.MadeNames.{active_var, next_var, sm_prefix, state_var}
use Rattle.machine_rules.specs.Resolve.{as_machine}
use Rattle.runs.specs.Claim.{MachineRun}
use Rattle.run_rules.specs.DemandPremises.{enum_values, values_in}
use Rattle.run_rules.specs.Run.{if_value}
use Rattle.runs.proofs.Computing.{first_node, machine_block, machine_premises, machines_number, reading, satisfying, small, walking}
use Rattle.run_rules.proofs.ChartFacts as chart
use Rattle.run_rules.proofs.ChartFacts.{Off, On, P, Q, swap}
use Rattle.runs.proofs.Nested.{nested, run, table}
use Rattle.run_rules.proofs.PremisesTested.{fed}
use Rattle.run_rules.proofs.RunTables.{cell_at, in_states, look, open_run, table_run, truths}
use Rattle.run_rules.proofs.Tested.{is_present}
use Rattle.runs.proofs.Using.{MachineInstance, machine-instance}

abbrev M : Name
M = 77 ∷ []

abbrev K : Name
K = 75 ∷ []

abbrev Z : Name
Z = 90 ∷ []

-- owned by the node of the machine M, and always in Z
unfoldable pub second : MachineDef
second = record { name = K; owner = some M; inputs = []; outputs = []; locals = []; initial = Z; states = def_cons Z [] [] reg_nil none def_nil }

unfoldable pub held : Package
held = record { names = M ∷ swap ∷ On ∷ Off ∷ P ∷ Q ∷ K ∷ Z ∷ []; enums = []; nodes = []; machines = nested false ∷ second ∷ []; activations = []; origins = [] }

pub shared-instance : MachineInstance held (nested false) (chart.nested false) 4 (run P) 4
unfolding held second nested chart.nested run table table_run open_run look cell_at truths in_states if_value is_present state_var next_var active_var sm_prefix decimal digits collect_state_names as_machine small reading machines_number walking machine_premises satisfying machine_block enum_values values_in
shared-instance = record { others = second ∷ []; first = refl; bytes = refl; reads = refl; answers = refl; walks = refl; enums = λ x. refl; premises = refl; satisfied = refl }

pub shared-runs : MachineRun (run P) 4 (fed (run P)) (as_machine (nested false) (chart.nested false))
shared-runs = machine-instance held (nested false) (chart.nested false) 4 (run P) 4 shared-instance

-- the equations of the whole node are not satisfied
whole-not : satisfying (run P) 4 (first_node held) ≡ false
unfolding held second nested run table table_run open_run look cell_at truths in_states if_value is_present state_var next_var active_var sm_prefix decimal digits satisfying first_node
whole-not = refl
