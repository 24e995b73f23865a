-- A machine with two regions beside each other, a region three levels deep that keeps its history, and a refinement, as a pack, and a run of
-- what its lowering writes. Its output is a number.
use Prim.Native.Nat.{ℕ}
use mathlib.Core.List.{List, [], ◌∷◌}
use mathlib.Core.Bool.{true, false}
use mathlib.Core.Option.{none, some}
use mathlib.Core.Path.{refl}
use Rattle.wire.specs.Decimal.{decimal, digits}
use Rattle.pack_rules.specs.Names.{Name}
use Rattle.pack_rules.specs.Syntax.{Equation, MachineDef, Package, Port, def_cons, def_nil, e_const, e_var, l_int, reg_cons, reg_nil, t_bool, t_int32}
use Rattle.machine_rules.specs.Checks.{collect_state_names}
use Rattle.machine_rules.specs.MadeNames.{active_var, next_var, sm_prefix, state_var}
use Rattle.machine_rules.specs.Resolve.{as_machine}
use Rattle.runs.specs.Claim.{MachineRun}
use Rattle.run_rules.specs.DemandPremises.{enum_values, values_in}
use Rattle.run_rules.specs.Run.{Run, if_value}
use Rattle.runs.proofs.Computing.{machine_block, machine_premises, machines_number, reading, satisfying, small, walking}
use Rattle.run_rules.proofs.ChartFacts as chart
use Rattle.run_rules.proofs.ChartFacts.{A, B, BX, BY, K, L, P, Q, U, W, go, o, sets, to, yes}
use Rattle.run_rules.proofs.PremisesTested.{fed}
use Rattle.run_rules.proofs.RunTables.{adding, cell_at, in_states, lit_value, look, numbers, open_run, total, truths}
use Rattle.run_rules.proofs.Tested.{is_present}
use Rattle.runs.proofs.Using.{MachineInstance, machine-instance}

abbrev M : Name
M = 77 ∷ []

abbrev S : Name
S = 83 ∷ []

abbrev X : Name
X = 88 ∷ []

abbrev Y : Name
Y = 89 ∷ []

abbrev gives : ℕ → List Equation
gives n = sets (e_const (l_int n))

abbrev output : List Port
output = record { name = o; ty = t_int32 } ∷ []

-- A has a region P, Q, where P has a region K, L with history, and beside it a region U, W, which gives the output; B refines S
unfoldable pub refined : MachineDef
refined =
    record {
      name = M;
      owner = none;
      inputs = record { name = go; ty = t_bool } ∷ [];
      outputs = output;
      locals = [];
      initial = A;
      states =
          def_cons A [] (to (e_var go) B)
          (reg_cons P false (def_cons P [] (to yes Q) (reg_cons K true (def_cons K [] (to yes L) reg_nil none (def_cons L [] [] reg_nil none def_nil)) reg_nil) none (def_cons Q [] (to yes P) reg_nil none def_nil))
          (reg_cons U false (def_cons U (gives 1) (to yes W) reg_nil none (def_cons W (gives 2) [] reg_nil none def_nil)) reg_nil)) none
          (def_cons B [] (to (e_var go) A) reg_nil (some S) def_nil);
    }

unfoldable pub sub : MachineDef
sub =
    record {
      name = S;
      owner = none;
      inputs = [];
      outputs = output;
      locals = [];
      initial = X;
      states = def_cons X (gives 3) (to yes Y) reg_nil none (def_cons Y (gives 4) [] reg_nil none def_nil);
    }

unfoldable pub held : Package
held =
    record {
      names = M ∷ S ∷ go ∷ o ∷ A ∷ B ∷ P ∷ Q ∷ K ∷ L ∷ U ∷ W ∷ X ∷ Y ∷ [];
      enums = [];
      nodes = [];
      machines = refined ∷ sub ∷ [];
      activations = [];
      origins = [];
    }

unfoldable pub run : Run ℕ
run =
    open_run adding (λ n h. none) (A ∷ P ∷ K ∷ L ∷ Q ∷ U ∷ W ∷ B ∷ BX ∷ BY ∷ [])
    (record { of = go; cells = truths (false ∷ false ∷ true ∷ false ∷ false ∷ true ∷ false ∷ []) }
    ∷ record { of = o; cells = numbers (some 1 ∷ some 2 ∷ some 2 ∷ some 3 ∷ some 4 ∷ some 4 ∷ some 1 ∷ []) }
    ∷ record { of = state_var 0; cells = in_states (A ∷ A ∷ A ∷ B ∷ B ∷ B ∷ A ∷ []) }
    ∷ record { of = next_var 0; cells = in_states (A ∷ A ∷ B ∷ B ∷ B ∷ A ∷ A ∷ []) }
    ∷ record { of = state_var 1; cells = in_states (P ∷ Q ∷ P ∷ Q ∷ Q ∷ Q ∷ P ∷ []) }
    ∷ record { of = next_var 1; cells = in_states (Q ∷ P ∷ Q ∷ Q ∷ Q ∷ Q ∷ Q ∷ []) }
    ∷ record { of = active_var 1; cells = truths (true ∷ true ∷ true ∷ false ∷ false ∷ false ∷ true ∷ []) }
    ∷ record { of = state_var 2; cells = in_states (K ∷ L ∷ L ∷ L ∷ L ∷ L ∷ L ∷ []) }
    ∷ record { of = next_var 2; cells = in_states (L ∷ L ∷ L ∷ L ∷ L ∷ L ∷ L ∷ []) }
    ∷ record { of = active_var 2; cells = truths (true ∷ false ∷ true ∷ false ∷ false ∷ false ∷ true ∷ []) }
    ∷ record { of = state_var 3; cells = in_states (U ∷ W ∷ W ∷ W ∷ W ∷ W ∷ U ∷ []) }
    ∷ record { of = next_var 3; cells = in_states (W ∷ W ∷ W ∷ W ∷ W ∷ W ∷ W ∷ []) }
    ∷ record { of = active_var 3; cells = truths (true ∷ true ∷ true ∷ false ∷ false ∷ false ∷ true ∷ []) }
    ∷ record { of = state_var 4; cells = in_states (BX ∷ BX ∷ BX ∷ BX ∷ BY ∷ BY ∷ BY ∷ []) }
    ∷ record { of = next_var 4; cells = in_states (BX ∷ BX ∷ BX ∷ BY ∷ BY ∷ BY ∷ BY ∷ []) }
    ∷ record { of = active_var 4; cells = truths (false ∷ false ∷ false ∷ true ∷ true ∷ true ∷ false ∷ []) }
    ∷ [])
    []

pub refined-instance : MachineInstance held refined chart.refined 10 run 7
unfolding held refined sub chart.refined run open_run adding lit_value total look cell_at truths numbers in_states if_value is_present state_var next_var active_var sm_prefix decimal digits collect_state_names as_machine small reading machines_number walking machine_premises satisfying machine_block enum_values values_in
refined-instance = record { others = sub ∷ []; first = refl; bytes = refl; reads = refl; answers = refl; walks = refl; enums = λ x. refl; premises = refl; satisfied = refl }

pub refined-runs : MachineRun run 7 (fed run) (as_machine refined chart.refined)
refined-runs = machine-instance held refined chart.refined 10 run 7 refined-instance
