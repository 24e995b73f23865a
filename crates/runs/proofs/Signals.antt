-- An activation whose output is a value of an enum of the package, as a pack, and a run of what its lowering writes: enum values stand on a
-- scope's clock, and `last` without an initial starts from the enum's first variant.
use Prim.Native.Nat.{ℕ}
use mathlib.Core.List.{List, [], ◌∷◌}
use mathlib.Core.Bool.{Bool, true, false}
use mathlib.Core.Option.{Option, none, some}
use mathlib.Core.Path.{◌≡◌, refl}
use Rattle.wire.specs.Decimal.{decimal, digits}
use Rattle.pack_rules.specs.Names.{Name, member}
use Rattle.pack_rules.specs.Syntax.{Activation, Equation, Node, Package, Port, Ty, e_arrow, e_call, e_if, e_pre, e_var, k_operator, t_bool, t_named, x_cons, x_nil}
use Rattle.activation_rules.specs.LastCalls.{last_name}
use Rattle.activation_rules.specs.MadeNames.{act_prefix, branch, clock_var, else_scope, flag_var, last_infix, last_var, made_name, sample_var, tag, value_var}
use Rattle.run_rules.specs.DemandPremises.{enum_values}
use Rattle.run_rules.specs.Run.{Run, Value, if_value, v_enum}
use Rattle.run_rules.specs.Scopes.{OutputsGiven}
use Rattle.run_rules.proofs.ChartFacts.{o, sets}
use Rattle.run_rules.proofs.PremisesTested.{fed}
use Rattle.run_rules.proofs.RunTables.{cell_at, look, open_run, sometimes, table_run, truths}
use Rattle.run_rules.proofs.Tested.{is_present}
use Rattle.runs.specs.Claim.{may_read}
use Rattle.runs.specs.OwnCycles.{ScopesRun}
use Rattle.runs.proofs.Computing.{act_block, act_premises, activations_number, holding, owner_of, reading, satisfying, scope_premises, small}
use Rattle.runs.proofs.Coloured.{Lamp, green, red}
use Rattle.runs.proofs.Owned.{F}
use Rattle.runs.proofs.Using.{ActInstance, act-instance, scopes-instance}

abbrev a : Name
a = 65 ∷ []

abbrev p : Name
p = 112 ∷ []

abbrev v : Name
v = 118 ∷ []

abbrev port : Ty → Name → Port
port t n = record { name = n; ty = t }

-- o is red or green by v where p, else what it was
unfoldable pub act : Activation
unfolding last_name
act =
    record {
      name = a;
      owner = F;
      outputs = port (t_named Lamp) o ∷ [];
      branches = record { name = p; condition = e_var p; equations = sets (e_if (e_var v) (e_var red) (e_var green)) } ∷ [];
      else_equations = sets (e_call last_name (x_cons (e_var o) x_nil));
    }

unfoldable pub owner : Node
owner = record { name = F; kind = k_operator; inputs = port t_bool p ∷ port t_bool v ∷ []; outputs = port (t_named Lamp) o ∷ []; locals = []; equations = [] }

unfoldable pub held : Package
unfolding last_name
held =
    record {
      names = Lamp ∷ red ∷ green ∷ F ∷ p ∷ v ∷ o ∷ a ∷ last_name ∷ [];
      enums = record { name = Lamp; variants = red ∷ green ∷ [] } ∷ [];
      nodes = owner ∷ [];
      machines = [];
      activations = act ∷ [];
      origins = [];
    }

unfoldable pub holders : List Equation
holders = record { lhs = last_var a o ∷ []; rhs = e_arrow (e_var red) (e_pre (e_var o)) } ∷ []

abbrev no : {A : Type 0} → Option A
no = none

abbrev is : Name → Option (Value ℕ)
is n = some (v_enum n)

unfoldable pub run : Run ℕ
run =
    table_run (red ∷ green ∷ [])
    (record { of = p; cells = truths (false ∷ true ∷ true ∷ false ∷ []) }
    ∷ record { of = v; cells = truths (true ∷ true ∷ false ∷ true ∷ []) }
    ∷ record { of = o; cells = is red ∷ is red ∷ is green ∷ is green ∷ [] }
    ∷ record { of = last_var a o; cells = is red ∷ is red ∷ is red ∷ is green ∷ [] }
    ∷ record { of = flag_var a 0; cells = truths (false ∷ true ∷ true ∷ false ∷ []) }
    ∷ record { of = sample_var a (branch 0) v; cells = sometimes (no ∷ some true ∷ some false ∷ []) }
    ∷ record { of = value_var a (branch 0) o; cells = no ∷ is red ∷ is green ∷ [] }
    ∷ record { of = sample_var a else_scope (last_var a o); cells = is red ∷ no ∷ no ∷ is green ∷ [] }
    ∷ record { of = value_var a else_scope o; cells = is red ∷ no ∷ no ∷ is green ∷ [] }
    ∷ [])

pub signals-instance : ActInstance held act owner (port (t_named Lamp) (last_var a o) ∷ []) holders run 4
unfolding held owner act holders run table_run open_run look cell_at truths sometimes if_value is_present last_name last_var last_infix flag_var clock_var sample_var value_var tag made_name act_prefix decimal digits small reading activations_number owner_of holding act_premises satisfying act_block member enum_values
signals-instance = record { only = refl; bytes = refl; reads = refl; answers = refl; owner = refl; holds = refl; enums = λ x. refl; premises = refl; satisfied = refl }

pub signals-run : OutputsGiven run 4 (fed run) act (may_read act owner (port (t_named Lamp) (last_var a o) ∷ [])) act.outputs
signals-run = act-instance held act owner (port (t_named Lamp) (last_var a o) ∷ []) holders run 4 signals-instance

-- the scopes on their own cycles
signals-allowed : scope_premises held act owner ≡ true
unfolding held act owner last_name scope_premises
signals-allowed = refl

pub signals-scopes : ScopesRun run 4 (fed run) held.enums act owner
signals-scopes = scopes-instance held act owner (port (t_named Lamp) (last_var a o) ∷ []) holders run 4 signals-instance signals-allowed
