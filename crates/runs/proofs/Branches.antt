-- An activation with two branches and `last`, as a pack, and a run of what its lowering writes: the first branch is taken in cycles 0
-- and 3, where the second condition is true too, the second in cycle 1, and neither in cycle 2.
use Prim.Native.Nat.{ℕ}
use mathlib.Core.List.{List, [], ◌∷◌}
use mathlib.Core.Bool.{Bool, true, false}
use mathlib.Core.Option.{Option, none, some}
use mathlib.Core.Path.{◌≡◌, refl}
use Rattle.wire.specs.Decimal.{decimal, digits}
use Rattle.pack_rules.specs.Names.{Name, member}
use Rattle.pack_rules.specs.Syntax.{Activation, Equation, Node, Package, Port, e_arrow, e_call, e_const, e_pre, e_var, k_operator, l_bool, t_bool, x_cons, x_nil}
use Rattle.activation_rules.specs.LastCalls.{last_name}
use Rattle.activation_rules.specs.MadeNames.{act_prefix, branch, clock_var, else_scope, flag_var, last_infix, last_var, made_name, none_var, sample_var, tag, value_var}
use Rattle.runs.specs.Claim.{may_read}
use Rattle.runs.specs.OwnCycles.{ScopesRun}
use Rattle.run_rules.specs.DemandPremises.{enum_values}
use Rattle.run_rules.specs.Run.{Run, if_value}
use Rattle.run_rules.specs.Scopes.{OutputsGiven}
use Rattle.runs.proofs.Computing.{act_block, act_premises, activations_number, holding, owner_of, reading, satisfying, scope_premises, small}
use Rattle.run_rules.proofs.ChartFacts.{o, sets}
use Rattle.runs.proofs.Owned.{F}
use Rattle.run_rules.proofs.PremisesTested.{fed}
use Rattle.run_rules.proofs.RunTables.{cell_at, look, open_run, sometimes, table_run, truths}
use Rattle.runs.proofs.Using.{ActInstance, act-instance, scopes-instance}

abbrev a : Name
a = 65 ∷ []

abbrev p : Name
p = 112 ∷ []

abbrev q : Name
q = 113 ∷ []

abbrev v : Name
v = 118 ∷ []

abbrev port : Name → Port
port n = record { name = n; ty = t_bool }

-- o is `last v` where p, v where q, else true
unfoldable pub act : Activation
unfolding last_name
act =
    record {
      name = a;
      owner = F;
      outputs = port o ∷ [];
      branches = record { name = p; condition = e_var p; equations = sets (e_call last_name (x_cons (e_var v) x_nil)) } ∷ record { name = q; condition = e_var q; equations = sets (e_var v) } ∷ [];
      else_equations = sets (e_const (l_bool true));
    }

unfoldable pub owner : Node
owner = record { name = F; kind = k_operator; inputs = port p ∷ port q ∷ port v ∷ []; outputs = port o ∷ []; locals = []; equations = [] }

unfoldable pub held : Package
unfolding last_name
held = record { names = F ∷ a ∷ p ∷ q ∷ v ∷ o ∷ last_name ∷ []; enums = []; nodes = owner ∷ []; machines = []; activations = act ∷ []; origins = [] }

-- the holder starts from a Boolean's default
unfoldable pub holders : List Equation
holders = record { lhs = last_var a v ∷ []; rhs = e_arrow (e_const (l_bool false)) (e_pre (e_var v)) } ∷ []

abbrev no : Option Bool
no = none

abbrev yes : Bool → Option Bool
yes b = some b

unfoldable pub run : Run ℕ
run =
    table_run []
    (record { of = p; cells = truths (true ∷ false ∷ false ∷ true ∷ []) }
    ∷ record { of = q; cells = truths (true ∷ true ∷ false ∷ true ∷ []) }
    ∷ record { of = v; cells = truths (true ∷ false ∷ true ∷ true ∷ []) }
    ∷ record { of = o; cells = truths (false ∷ false ∷ true ∷ true ∷ []) }
    ∷ record { of = last_var a v; cells = truths (false ∷ true ∷ false ∷ true ∷ []) }
    ∷ record { of = flag_var a 0; cells = truths (true ∷ false ∷ false ∷ true ∷ []) }
    ∷ record { of = none_var a 0; cells = truths (false ∷ true ∷ true ∷ false ∷ []) }
    ∷ record { of = flag_var a 1; cells = truths (false ∷ true ∷ false ∷ false ∷ []) }
    ∷ record { of = clock_var a 1; cells = sometimes (no ∷ yes true ∷ yes false ∷ no ∷ []) }
    ∷ record { of = sample_var a (branch 0) (last_var a v); cells = sometimes (yes false ∷ no ∷ no ∷ yes true ∷ []) }
    ∷ record { of = value_var a (branch 0) o; cells = sometimes (yes false ∷ no ∷ no ∷ yes true ∷ []) }
    ∷ record { of = sample_var a (branch 1) v; cells = sometimes (no ∷ yes false ∷ no ∷ no ∷ []) }
    ∷ record { of = value_var a (branch 1) o; cells = sometimes (no ∷ yes false ∷ no ∷ no ∷ []) }
    ∷ record { of = value_var a else_scope o; cells = sometimes (no ∷ no ∷ yes true ∷ no ∷ []) }
    ∷ [])

pub branches-instance : ActInstance held act owner (port (last_var a v) ∷ []) holders run 4
unfolding held owner act holders run table_run open_run look cell_at truths sometimes if_value last_name last_var last_infix flag_var none_var clock_var sample_var value_var tag made_name act_prefix decimal digits small reading activations_number owner_of holding act_premises satisfying act_block member enum_values
branches-instance = record { only = refl; bytes = refl; reads = refl; answers = refl; owner = refl; holds = refl; enums = λ x. refl; premises = refl; satisfied = refl }

pub branches-run : OutputsGiven run 4 (fed run) act (may_read act owner (port (last_var a v) ∷ [])) act.outputs
branches-run = act-instance held act owner (port (last_var a v) ∷ []) holders run 4 branches-instance

-- the scopes on their own cycles; `last` starts from a Boolean's default
branches-allowed : scope_premises held act owner ≡ true
unfolding held act owner last_name scope_premises
branches-allowed = refl

pub branches-scopes : ScopesRun run 4 (fed run) [] act owner
unfolding held
branches-scopes = scopes-instance held act owner (port (last_var a v) ∷ []) holders run 4 branches-instance branches-allowed
