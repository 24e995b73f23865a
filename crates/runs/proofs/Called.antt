-- A branch that is a call, as a pack, and a run of what its lowering writes: the call goes by the ticks of its scope, which is taken in
-- cycles 1 and 3.
use Prim.Native.Nat.{ℕ, ◌+◌, ◌*◌}
use mathlib.Core.List.{[], ◌∷◌}
use mathlib.Core.Bool.{true, false}
use mathlib.Core.Option.{Option, none, some}
use mathlib.Core.Path.{refl}
use Rattle.wire.specs.Decimal.{decimal, digits}
use Rattle.pack_rules.specs.Names.{Name, member}
use Rattle.pack_rules.specs.Syntax.{Activation, Node, Package, Port, Ty, e_call, e_const, e_var, k_operator, l_int, t_bool, t_int32, x_cons, x_nil}
use Rattle.activation_rules.specs.MadeNames.{act_prefix, branch, clock_var, else_scope, flag_var, made_name, sample_var, tag, value_var}
use Rattle.runs.specs.Claim.{may_read}
use Rattle.run_rules.specs.DemandPremises.{enum_values}
use Rattle.run_rules.specs.Run.{Run, if_value, v_other}
use Rattle.run_rules.specs.Scopes.{OutputsGiven}
use Rattle.runs.proofs.Computing.{act_block, act_premises, activations_number, holding, owner_of, reading, satisfying, small}
use Rattle.run_rules.proofs.ChartFacts.{o, sets}
use Rattle.runs.proofs.Owned.{F}
use Rattle.run_rules.proofs.PremisesTested.{fed}
use Rattle.run_rules.proofs.RunFacts.{digit, joined, number}
use Rattle.run_rules.proofs.RunTables.{adding, cell_at, lit_value, look, numbers, open_run, truths}
use Rattle.run_rules.proofs.Tested.{is_present}
use Rattle.runs.proofs.Using.{ActInstance, act-instance}

abbrev a : Name
a = 65 ∷ []

abbrev f : Name
f = 102 ∷ []

abbrev p : Name
p = 112 ∷ []

abbrev v : Name
v = 118 ∷ []

abbrev port : Ty → Name → Port
port t n = record { name = n; ty = t }

-- o is `f(v)` where p, else 5
unfoldable pub act : Activation
act =
    record {
      name = a;
      owner = F;
      outputs = port t_int32 o ∷ [];
      branches = record { name = p; condition = e_var p; equations = sets (e_call f (x_cons (e_var v) x_nil)) } ∷ [];
      else_equations = sets (e_const (l_int 5));
    }

unfoldable pub owner : Node
owner = record { name = F; kind = k_operator; inputs = port t_bool p ∷ port t_int32 v ∷ []; outputs = port t_int32 o ∷ []; locals = []; equations = [] }

unfoldable pub held : Package
held = record { names = F ∷ a ∷ p ∷ v ∷ o ∷ f ∷ []; enums = []; nodes = owner ∷ []; machines = []; activations = act ∷ []; origins = [] }

abbrev no : Option ℕ
no = none

abbrev to : ℕ → Option ℕ
to n = some n

-- a call gives its ticks so far, and then what its operand was at them, as digits
unfoldable pub run : Run ℕ
run =
    open_run adding (λ n h. some (v_other (n * 100 + joined h))) []
    (record { of = p; cells = truths (false ∷ true ∷ false ∷ true ∷ []) }
    ∷ record { of = v; cells = numbers (to 6 ∷ to 7 ∷ to 8 ∷ to 9 ∷ []) }
    ∷ record { of = o; cells = numbers (to 5 ∷ to 107 ∷ to 5 ∷ to 279 ∷ []) }
    ∷ record { of = flag_var a 0; cells = truths (false ∷ true ∷ false ∷ true ∷ []) }
    ∷ record { of = sample_var a (branch 0) v; cells = numbers (no ∷ to 7 ∷ no ∷ to 9 ∷ []) }
    ∷ record { of = value_var a (branch 0) o; cells = numbers (no ∷ to 107 ∷ no ∷ to 279 ∷ []) }
    ∷ record { of = value_var a else_scope o; cells = numbers (to 5 ∷ no ∷ to 5 ∷ []) }
    ∷ [])
    []

pub called-instance : ActInstance held act owner [] [] run 4
unfolding held owner act run open_run adding lit_value digit number joined look cell_at truths numbers if_value is_present flag_var clock_var sample_var value_var tag made_name act_prefix decimal digits small reading activations_number owner_of holding act_premises satisfying act_block member enum_values
called-instance = record { only = refl; bytes = refl; reads = refl; answers = refl; owner = refl; holds = refl; enums = λ x. refl; premises = refl; satisfied = refl }

pub called-run : OutputsGiven run 4 (fed run) act (may_read act owner []) act.outputs
called-run = act-instance held act owner [] [] run 4 called-instance
