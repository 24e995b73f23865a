-- A machine whose output is a value of an enum of the package, as a pack, and a run of what its lowering writes: the enum's values are among
-- those of the run.
use Prim.Native.Nat.{ℕ}
use mathlib.Core.List.{List, [], ◌∷◌}
use mathlib.Core.Bool.{true, false}
use mathlib.Core.Option.{none, some}
use mathlib.Core.Path.{◌≡◌, refl}
use Rattle.wire.specs.Decimal.{decimal, digits}
use Rattle.pack_rules.specs.Names.{Name, eq_name, member}
use Rattle.pack_rules.specs.Syntax.{MachineDef, Package, def_cons, def_nil, e_var, reg_nil, t_bool, t_named}
use Rattle.machine_rules.specs.Checks.{collect_state_names}
use Rattle.machine_rules.specs.MadeNames.{active_var, next_var, sm_prefix, state_var}
use Rattle.machine_rules.specs.Resolve.{as_machine}
use Rattle.machine_rules.specs.Resolved.{ResolvedStates, r_nil, s_cons, s_nil}
use Rattle.run_rules.specs.DemandPremises.{enum_values, values_in}
use Rattle.run_rules.specs.Run.{Run, if_value, v_enum}
use Rattle.run_rules.proofs.ChartFacts.{A, B, go, o, sets, to}
use Rattle.run_rules.proofs.PremisesTested.{fed}
use Rattle.run_rules.proofs.RunTables.{cell_at, in_states, look, open_run, table_run, truths}
use Rattle.run_rules.proofs.Tested.{is_present}
use Rattle.runs.specs.Claim.{MachineRun}
use Rattle.runs.proofs.Computing.{machine_block, machine_premises, machines_number, reading, satisfying, small, walking}
use Rattle.runs.proofs.Using.{MachineInstance, machine-instance}

abbrev M : Name
M = 77 ∷ []

abbrev pub Lamp : Name
Lamp = 76 ∷ []

abbrev pub red : Name
red = 114 ∷ []

abbrev pub green : Name
green = 103 ∷ []

-- o is red in A and green in B
unfoldable pub coloured : MachineDef
coloured =
    record {
      name = M;
      owner = none;
      inputs = record { name = go; ty = t_bool } ∷ [];
      outputs = record { name = o; ty = t_named Lamp } ∷ [];
      locals = [];
      initial = A;
      states = def_cons A (sets (e_var red)) (to (e_var go) B) reg_nil none (def_cons B (sets (e_var green)) [] reg_nil none def_nil);
    }

unfoldable pub states : ResolvedStates
states = s_cons A (sets (e_var red)) (to (e_var go) B) r_nil (s_cons B (sets (e_var green)) [] r_nil s_nil)

unfoldable pub held : Package
held = record { names = M ∷ Lamp ∷ red ∷ green ∷ go ∷ o ∷ A ∷ B ∷ []; enums = record { name = Lamp; variants = red ∷ green ∷ [] } ∷ []; nodes = []; machines = coloured ∷ []; activations = []; origins = [] }

unfoldable pub run : Run ℕ
run =
    table_run (red ∷ green ∷ A ∷ B ∷ [])
    (record { of = go; cells = truths (false ∷ true ∷ false ∷ []) }
    ∷ record { of = o; cells = in_states (red ∷ red ∷ green ∷ []) }
    ∷ record { of = state_var 0; cells = in_states (A ∷ A ∷ B ∷ []) }
    ∷ record { of = next_var 0; cells = in_states (A ∷ B ∷ B ∷ []) }
    ∷ [])

pub coloured-instance : MachineInstance held coloured states 2 run 3
unfolding held coloured states run table_run open_run look cell_at truths in_states if_value is_present state_var next_var active_var sm_prefix decimal digits collect_state_names as_machine small reading machines_number walking machine_premises satisfying machine_block enum_values values_in
coloured-instance = record { others = []; first = refl; bytes = refl; reads = refl; answers = refl; walks = refl; enums = λ x. refl; premises = refl; satisfied = refl }

pub coloured-runs : MachineRun run 3 (fed run) (as_machine coloured states)
coloured-runs = machine-instance held coloured states 2 run 3 coloured-instance
