-- The starred chart of nested P, Q as a pack, without history and with it, and a run of what its lowering writes.
use Prim.Native.Nat.{ℕ}
use mathlib.Core.List.{List, [], ◌∷◌}
use mathlib.Core.Bool.{Bool, true, false}
use mathlib.Core.Option.{none}
use mathlib.Core.Path.{◌≡◌, refl}
use Rattle.wire.specs.Decimal.{decimal, digits}
use Rattle.pack_rules.specs.Names.{Name}
use Rattle.pack_rules.specs.Syntax.{MachineDef, Package, def_cons, def_nil, e_const, e_var, l_bool, reg_cons, reg_nil, t_bool}
use Rattle.machine_rules.specs.Checks.{collect_state_names}
use Rattle.machine_rules.specs.MadeNames.{active_var, next_var, sm_prefix, state_var}
use Rattle.machine_rules.specs.Resolve.{as_machine}
use Rattle.runs.specs.Claim.{MachineRun}
use Rattle.run_rules.specs.DemandPremises.{enum_values, values_in}
use Rattle.run_rules.specs.Run.{Run, if_value}
use Rattle.runs.proofs.Computing.{machine_block, machine_premises, machines_number, reading, satisfying, small, walking}
use Rattle.run_rules.proofs.ChartFacts as chart
use Rattle.run_rules.proofs.ChartFacts.{Off, On, P, Q, swap}
use Rattle.run_rules.proofs.PremisesTested.{fed}
use Rattle.run_rules.proofs.RunTables.{Column, cell_at, in_states, look, open_run, table_run, truths}
use Rattle.runs.proofs.Using.{MachineInstance, machine-instance}

-- P to Q always; On and Off change places with `swap`
unfoldable pub nested : Bool → MachineDef
nested h =
    record {
      name = 77 ∷ [];
      owner = none;
      inputs = record { name = swap; ty = t_bool } ∷ [];
      outputs = [];
      locals = [];
      initial = On;
      states =
          def_cons On [] (record { guard = e_var swap; target = Off } ∷ []) (reg_cons P h (def_cons P [] (record { guard = e_const (l_bool true); target = Q } ∷ []) reg_nil none (def_cons Q [] [] reg_nil none def_nil)) reg_nil) none
          (def_cons Off [] (record { guard = e_var swap; target = On } ∷ []) reg_nil none def_nil);
    }

unfoldable pub held : Bool → Package
held h = record { names = (77 ∷ []) ∷ swap ∷ On ∷ Off ∷ P ∷ Q ∷ []; enums = []; nodes = []; machines = nested h ∷ []; activations = []; origins = [] }

-- the inner region is active in cycles 0, 1 and 3; `last` is its state in cycle 3
unfoldable pub table : Name → List Column
table last =
    record { of = swap; cells = truths (false ∷ true ∷ true ∷ false ∷ []) }
    ∷ record { of = state_var 0; cells = in_states (On ∷ On ∷ Off ∷ On ∷ []) }
    ∷ record { of = next_var 0; cells = in_states (On ∷ Off ∷ On ∷ On ∷ []) }
    ∷ record { of = active_var 1; cells = truths (true ∷ true ∷ false ∷ true ∷ []) }
    ∷ record { of = state_var 1; cells = in_states (P ∷ Q ∷ Q ∷ last ∷ []) }
    ∷ record { of = next_var 1; cells = in_states (Q ∷ Q ∷ Q ∷ Q ∷ []) }
    ∷ []

unfoldable pub run : Name → Run ℕ
run last = table_run (On ∷ P ∷ Q ∷ Off ∷ []) (table last)

without : MachineInstance (held false) (nested false) (chart.nested false) 4 (run P) 4
unfolding held nested chart.nested run table table_run open_run look cell_at truths in_states if_value state_var next_var active_var sm_prefix decimal digits collect_state_names as_machine small reading machines_number walking machine_premises satisfying machine_block enum_values values_in
without = record { others = []; first = refl; bytes = refl; reads = refl; answers = refl; walks = refl; enums = λ x. refl; premises = refl; satisfied = refl }

pub without-runs : MachineRun (run P) 4 (fed (run P)) (as_machine (nested false) (chart.nested false))
without-runs = machine-instance (held false) (nested false) (chart.nested false) 4 (run P) 4 without

with-history : MachineInstance (held true) (nested true) (chart.nested true) 4 (run Q) 4
unfolding held nested chart.nested run table table_run open_run look cell_at truths in_states if_value state_var next_var active_var sm_prefix decimal digits collect_state_names as_machine small reading machines_number walking machine_premises satisfying machine_block enum_values values_in
with-history = record { others = []; first = refl; bytes = refl; reads = refl; answers = refl; walks = refl; enums = λ x. refl; premises = refl; satisfied = refl }

pub with-history-runs : MachineRun (run Q) 4 (fed (run Q)) (as_machine (nested true) (chart.nested true))
with-history-runs = machine-instance (held true) (nested true) (chart.nested true) 4 (run Q) 4 with-history

-- the run in which the inner region ends in the other state satisfies neither
without_not : satisfying (run Q) 4 (machine_block (held false) (nested false) (chart.nested false)) ≡ false
unfolding held nested chart.nested run table table_run open_run look cell_at truths in_states if_value state_var next_var active_var sm_prefix decimal digits as_machine satisfying machine_block
without_not = refl

with-not : satisfying (run P) 4 (machine_block (held true) (nested true) (chart.nested true)) ≡ false
unfolding held nested chart.nested run table table_run open_run look cell_at truths in_states if_value state_var next_var active_var sm_prefix decimal digits as_machine satisfying machine_block
with-not = refl
