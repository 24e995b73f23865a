-- A machine with an owner and an output, as a pack, and a run of what its lowering writes: the output is given by the inner region where
-- it is active, and by the state Off.
use Prim.Native.Nat.{ℕ}
use mathlib.Core.List.{List, [], ◌∷◌, ◌++◌}
use mathlib.Core.Bool.{true, false}
use mathlib.Core.Option.{none, some}
use mathlib.Core.Path.{refl}
use Rattle.wire.specs.Decimal.{decimal, digits}
use Rattle.pack_rules.specs.Names.{Name}
use Rattle.pack_rules.specs.Syntax.{MachineDef, Node, Package, def_cons, def_nil, e_var, k_operator, reg_cons, reg_nil, t_bool}
use Rattle.machine_rules.specs.Checks.{collect_state_names}
use Rattle.machine_rules.specs.MadeNames.{active_var, next_var, sm_prefix, state_var}
use Rattle.machine_rules.specs.Resolve.{as_machine}
use Rattle.runs.specs.Claim.{MachineRun}
use Rattle.run_rules.specs.DemandPremises.{enum_values, values_in}
use Rattle.run_rules.specs.Run.{Run, if_value}
use Rattle.runs.proofs.Computing.{machine_block, machine_premises, machines_number, reading, satisfying, small, walking}
use Rattle.run_rules.proofs.ChartFacts as chart
use Rattle.run_rules.proofs.ChartFacts.{Off, On, P, Q, no, o, sets, swap, to, yes}
use Rattle.runs.proofs.Nested.{table}
use Rattle.run_rules.proofs.PremisesTested.{fed}
use Rattle.run_rules.proofs.RunTables.{cell_at, in_states, look, open_run, table_run, truths}
use Rattle.runs.proofs.Using.{MachineInstance, machine-instance}

abbrev pub F : Name
F = 70 ∷ []

abbrev u : Name
u = 117 ∷ []

-- On has an equation of its own, which the region covers, and two guards of which both may be true
unfoldable pub owned : MachineDef
owned =
    record {
      name = 77 ∷ [];
      owner = some F;
      inputs = [];
      outputs = record { name = o; ty = t_bool } ∷ [];
      locals = [];
      initial = On;
      states =
          def_cons On (sets no) (to (e_var swap) Off ++ to yes On) (reg_cons P false (def_cons P (sets yes) (to yes Q) reg_nil none (def_cons Q (sets (e_var swap)) [] reg_nil none def_nil)) reg_nil) none
          (def_cons Off (sets no) (to (e_var swap) On) reg_nil none def_nil);
    }

-- the owner has an equation of its own, and the machine's come after it
unfoldable pub owner : Node
owner =
    record {
      name = F;
      kind = k_operator;
      inputs = record { name = swap; ty = t_bool } ∷ [];
      outputs = record { name = o; ty = t_bool } ∷ [];
      locals = record { name = u; ty = t_bool } ∷ [];
      equations = record { lhs = u ∷ []; rhs = e_var swap } ∷ [];
    }

unfoldable pub held : Package
held = record { names = F ∷ swap ∷ o ∷ u ∷ (77 ∷ []) ∷ On ∷ Off ∷ P ∷ Q ∷ []; enums = []; nodes = owner ∷ []; machines = owned ∷ []; activations = []; origins = [] }

unfoldable pub run : Run ℕ
unfolding table
run = table_run (On ∷ P ∷ Q ∷ Off ∷ []) (record { of = o; cells = truths (true ∷ true ∷ false ∷ true ∷ []) } ∷ table P)

pub owned-instance : MachineInstance held owned chart.owned 4 run 4
unfolding held owner owned chart.owned run table table_run open_run look cell_at truths in_states if_value state_var next_var active_var sm_prefix decimal digits collect_state_names as_machine small reading machines_number walking machine_premises satisfying machine_block enum_values values_in
owned-instance = record { others = []; first = refl; bytes = refl; reads = refl; answers = refl; walks = refl; enums = λ x. refl; premises = refl; satisfied = refl }

pub owned-runs : MachineRun run 4 (fed run) (as_machine owned chart.owned)
owned-runs = machine-instance held owned chart.owned 4 run 4 owned-instance
