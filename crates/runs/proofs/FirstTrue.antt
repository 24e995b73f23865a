-- The starred chart of two true conditions, its pack, and a run of what its lowering writes. Both are true in cycle 0, the first alone in
-- cycle 1, the second alone in cycle 2, none in cycle 3.
use Prim.Native.Nat.{ℕ}
use mathlib.Core.List.{List, [], ◌∷◌}
use mathlib.Core.Bool.{Bool, true, false}
use mathlib.Core.Option.{Option, none, some}
use mathlib.Core.Path.{refl}
use Rattle.wire.specs.Decimal.{decimal, digits}
use Rattle.pack_rules.specs.Names.{Name, member}
use Rattle.pack_rules.specs.Syntax.{Activation, Equation, Node, Package, Port, Ty, e_const, e_var, k_operator, l_int, t_bool, t_int64}
use Rattle.activation_rules.specs.MadeNames.{act_prefix, branch, clock_var, else_scope, flag_var, made_name, none_var, tag, value_var}
use Rattle.run_rules.specs.DemandPremises.{enum_values}
use Rattle.run_rules.specs.Run.{Run, if_value}
use Rattle.run_rules.specs.Scopes.{OutputsGiven}
use Rattle.run_rules.proofs.PremisesTested.{fed}
use Rattle.run_rules.proofs.RunTables.{adding, cell_at, lit_value, look, numbers, open_run, sometimes, truths}
use Rattle.run_rules.proofs.Tested.{is_present}
use Rattle.runs.specs.Claim.{may_read}
use Rattle.runs.proofs.Computing.{act_block, act_premises, activations_number, holding, owner_of, reading, satisfying, small}
use Rattle.runs.proofs.Using.{ActInstance, act-instance}

abbrev a : Name
a = 65 ∷ []

abbrev N : Name
N = 78 ∷ []

abbrev pub o : Name
o = 111 ∷ []

abbrev v : Name
v = 118 ∷ []

abbrev w : Name
w = 119 ∷ []

abbrev c : Name
c = 99 ∷ []

abbrev B : Name
B = 66 ∷ []

abbrev d : Name
d = 100 ∷ []

abbrev D : Name
D = 68 ∷ []

abbrev port : Ty → Name → Port
port t n = record { name = n; ty = t }

abbrev gives : ℕ → List Equation
gives n = record { lhs = o ∷ []; rhs = e_const (l_int n) } ∷ []

-- o is 1 where c, 2 where d, else 3
unfoldable pub act : Activation
act =
    record {
      name = a;
      owner = N;
      outputs = port t_int64 o ∷ [];
      branches = record { name = B; condition = e_var c; equations = gives 1 } ∷ record { name = D; condition = e_var d; equations = gives 2 } ∷ [];
      else_equations = gives 3;
    }

unfoldable pub owner : Node
owner = record { name = N; kind = k_operator; inputs = port t_int64 v ∷ port t_int64 w ∷ port t_bool c ∷ port t_bool d ∷ []; outputs = port t_int64 o ∷ []; locals = []; equations = [] }

unfoldable pub held : Package
held = record { names = a ∷ N ∷ o ∷ v ∷ w ∷ c ∷ B ∷ d ∷ D ∷ []; enums = []; nodes = owner ∷ []; machines = []; activations = act ∷ []; origins = [] }

-- its pack
unfoldable pub both_conditions : List ℕ
both_conditions =
    9 ∷ 0 ∷ 1 ∷ 65 ∷ 1 ∷ 78 ∷ 1 ∷ 111 ∷ 1 ∷ 118 ∷ 1 ∷ 119 ∷ 1 ∷ 99 ∷ 1 ∷ 66 ∷ 1 ∷ 100 ∷ 1 ∷ 68 ∷ 0 ∷ 0 ∷ 1 ∷ 0 ∷ 1 ∷ 0 ∷ 1
    ∷ 4 ∷ 0 ∷ 3 ∷ 0 ∷ 4 ∷ 4 ∷ 0 ∷ 4 ∷ 5 ∷ 0 ∷ 0 ∷ 7 ∷ 0 ∷ 0 ∷ 1 ∷ 0 ∷ 2 ∷ 0 ∷ 4 ∷ 0 ∷ 0 ∷ 0 ∷ 0 ∷ 0 ∷ 0 ∷ 1 ∷ 0 ∷ 0 ∷ 0
    ∷ 1 ∷ 0 ∷ 1 ∷ 0 ∷ 2 ∷ 0 ∷ 4 ∷ 2 ∷ 0 ∷ 6 ∷ 0 ∷ 1 ∷ 5 ∷ 0 ∷ 1 ∷ 0 ∷ 1 ∷ 0 ∷ 2 ∷ 0 ∷ 0 ∷ 1 ∷ 1 ∷ 0 ∷ 0 ∷ 0 ∷ 0 ∷ 0 ∷ 0
    ∷ 0 ∷ 8 ∷ 0 ∷ 1 ∷ 7 ∷ 0 ∷ 1 ∷ 0 ∷ 1 ∷ 0 ∷ 2 ∷ 0 ∷ 0 ∷ 1 ∷ 2 ∷ 0 ∷ 0 ∷ 0 ∷ 0 ∷ 0 ∷ 0 ∷ 0 ∷ 1 ∷ 0 ∷ 1 ∷ 0 ∷ 2 ∷ 0 ∷ 0
    ∷ 1 ∷ 3 ∷ 0 ∷ 0 ∷ 0 ∷ 0 ∷ 0 ∷ 0 ∷ 0 ∷ 0 ∷ 0 ∷ []

abbrev no : {A : Type 0} → Option A
no = none

abbrev is : {A : Type 0} → A → Option A
is x = some x

unfoldable pub run : Run ℕ
run =
    open_run adding (λ n h. none) []
    (record { of = c; cells = truths (true ∷ true ∷ false ∷ false ∷ []) }
    ∷ record { of = d; cells = truths (true ∷ false ∷ true ∷ false ∷ []) }
    ∷ record { of = o; cells = numbers (is 1 ∷ is 1 ∷ is 2 ∷ is 3 ∷ []) }
    ∷ record { of = flag_var a 0; cells = truths (true ∷ true ∷ false ∷ false ∷ []) }
    ∷ record { of = none_var a 0; cells = truths (false ∷ false ∷ true ∷ true ∷ []) }
    ∷ record { of = flag_var a 1; cells = truths (false ∷ false ∷ true ∷ false ∷ []) }
    ∷ record { of = clock_var a 1; cells = sometimes (no ∷ no ∷ is true ∷ is false ∷ []) }
    ∷ record { of = value_var a (branch 0) o; cells = numbers (is 1 ∷ is 1 ∷ []) }
    ∷ record { of = value_var a (branch 1) o; cells = numbers (no ∷ no ∷ is 2 ∷ []) }
    ∷ record { of = value_var a else_scope o; cells = numbers (no ∷ no ∷ no ∷ is 3 ∷ []) }
    ∷ [])
    []

pub first-true-instance : ActInstance held act owner [] [] run 4
unfolding held owner act run open_run adding lit_value look cell_at truths numbers sometimes if_value is_present flag_var none_var clock_var value_var tag made_name act_prefix decimal digits small reading activations_number owner_of holding act_premises satisfying act_block member enum_values
first-true-instance = record { only = refl; bytes = refl; reads = refl; answers = refl; owner = refl; holds = refl; enums = λ x. refl; premises = refl; satisfied = refl }

pub first-true-run : OutputsGiven run 4 (fed run) act (may_read act owner []) act.outputs
first-true-run = act-instance held act owner [] [] run 4 first-true-instance
