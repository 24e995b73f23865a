-- A branch that is a bare `pre`, as a pack, and a run of what its lowering writes: at the first tick of its scope, cycle 1, the output is
-- there without a value.
use Prim.Native.Nat.{ℕ}
use mathlib.Core.List.{[], ◌∷◌}
use mathlib.Core.Bool.{Bool, true, false}
use mathlib.Core.Option.{Option, none, some}
use mathlib.Core.Path.{◌≡◌, refl}
use Rattle.wire.specs.Decimal.{decimal, digits}
use Rattle.pack_rules.specs.Names.{Name, eq_name, member}
use Rattle.pack_rules.specs.Syntax.{Activation, Node, Package, Port, e_const, e_pre, e_var, k_operator, l_bool, t_bool}
use Rattle.activation_rules.specs.MadeNames.{act_prefix, branch, clock_var, else_scope, flag_var, made_name, sample_var, tag, value_var}
use Rattle.runs.specs.Claim.{may_read}
use Rattle.runs.specs.OwnCycles.{ScopesRun}
use Rattle.run_rules.specs.DemandPremises.{enum_values}
use Rattle.run_rules.specs.Run.{Run, clock_of, if_value}
use Rattle.run_rules.specs.Scopes.{OutputsGiven}
use Rattle.runs.proofs.Computing.{act_block, act_premises, activations_number, holding, owner_of, reading, satisfying, scope_premises, small}
use Rattle.run_rules.proofs.ChartFacts.{o, sets}
use Rattle.runs.proofs.Owned.{F}
use Rattle.run_rules.proofs.PremisesTested.{fed}
use Rattle.run_rules.proofs.RunTables.{cell_at, look, open_run, sometimes, truths}
use Rattle.run_rules.proofs.Tested.{is_present}
use Rattle.runs.proofs.Using.{ActInstance, act-instance, scopes-instance}

abbrev a : Name
a = 65 ∷ []

abbrev p : Name
p = 112 ∷ []

abbrev v : Name
v = 118 ∷ []

abbrev port : Name → Port
port n = record { name = n; ty = t_bool }

-- o is `pre v` where p, else true
unfoldable pub act : Activation
act =
    record {
      name = a;
      owner = F;
      outputs = port o ∷ [];
      branches = record { name = p; condition = e_var p; equations = sets (e_pre (e_var v)) } ∷ [];
      else_equations = sets (e_const (l_bool true));
    }

unfoldable pub owner : Node
owner = record { name = F; kind = k_operator; inputs = port p ∷ port v ∷ []; outputs = port o ∷ []; locals = []; equations = [] }

unfoldable pub held : Package
held = record { names = F ∷ a ∷ p ∷ v ∷ o ∷ []; enums = []; nodes = owner ∷ []; machines = []; activations = act ∷ []; origins = [] }

abbrev no : Option Bool
no = none

abbrev yes : Bool → Option Bool
yes b = some b

-- the last two columns: the output and the branch's value are there in cycle 1
unfoldable pub run : Run ℕ
run =
    open_run (λ x vs. none) (λ n h. none) []
    (record { of = p; cells = truths (false ∷ true ∷ true ∷ false ∷ []) }
    ∷ record { of = v; cells = truths (true ∷ false ∷ true ∷ true ∷ []) }
    ∷ record { of = o; cells = sometimes (yes true ∷ no ∷ yes false ∷ yes true ∷ []) }
    ∷ record { of = flag_var a 0; cells = truths (false ∷ true ∷ true ∷ false ∷ []) }
    ∷ record { of = sample_var a (branch 0) v; cells = sometimes (no ∷ yes false ∷ yes true ∷ no ∷ []) }
    ∷ record { of = value_var a (branch 0) o; cells = sometimes (no ∷ no ∷ yes false ∷ no ∷ []) }
    ∷ record { of = value_var a else_scope o; cells = sometimes (yes true ∷ no ∷ no ∷ yes true ∷ []) }
    ∷ [])
    (record { of = o; cells = sometimes (no ∷ yes true ∷ []) } ∷ record { of = value_var a (branch 0) o; cells = sometimes (no ∷ yes true ∷ []) } ∷ [])

pub uninitialised : ActInstance held act owner [] [] run 4
unfolding held owner act run open_run look cell_at truths sometimes if_value is_present flag_var clock_var sample_var value_var tag made_name act_prefix decimal digits small reading activations_number owner_of holding act_premises satisfying act_block member enum_values
uninitialised = record { only = refl; bytes = refl; reads = refl; answers = refl; owner = refl; holds = refl; enums = λ x. refl; premises = refl; satisfied = refl }

pub uninitialised-run : OutputsGiven run 4 (fed run) act (may_read act owner []) act.outputs
uninitialised-run = act-instance held act owner [] [] run 4 uninitialised

there : (clock_of run o 1 ≡ true) × (run.at o 1 ≡ none) × (run.at o 2 ≡ run.at v 1)
unfolding run open_run look cell_at truths sometimes is_present clock_of flag_var sample_var value_var tag made_name act_prefix decimal digits eq_name
there = (refl, refl, refl)

-- the scopes on their own cycles
uninitialised-allowed : scope_premises held act owner ≡ true
unfolding held act owner scope_premises
uninitialised-allowed = refl

pub uninitialised-scopes : ScopesRun run 4 (fed run) [] act owner
unfolding held
uninitialised-scopes = scopes-instance held act owner [] [] run 4 uninitialised uninitialised-allowed
