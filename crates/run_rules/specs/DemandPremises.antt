-- The premises as the demand has them of what is drawn: enum values are among those of the package and the resolved states, and none is
-- made.
use Rattle.std.specs.Prelude.{◌≡◌, List, [], ◌∷◌, ◌++◌, Bool, true, not, ◌&&◌, ℕ}
use Rattle.pack_rules.specs.Names.{Name, member}
use Rattle.pack_rules.specs.Syntax.{Activation, Enum, Package}
use Rattle.machine_rules.specs.Resolved.{ResolvedMachine}
use Rattle.machine_rules.specs.MadeNames.{sm_prefix}
use Rattle.machine_rules.specs.Lower.{equations_of}
use Rattle.machine_rules.specs.Checks.{collect_state_names}
use Rattle.activation_rules.specs.MadeNames.{act_prefix}
use Rattle.activation_rules.specs.RewriteLast.{conditions_of}
use Rattle.run_rules.specs.Run.{Run}
use Rattle.run_rules.specs.Chart.{Guards}
use Rattle.run_rules.specs.Scopes.{Conditions}
use Rattle.run_rules.specs.Premises.{ConditionsAre, GuardsS, OnEveryCycle, PortsPresent, SidesS, starts_with}

-- none of the names begins with a prefix
unfoldable pub none_starts : Name → List Name → Bool
none_starts p [] = true
none_starts p (x ∷ xs) = not (starts_with p x) && none_starts p xs

-- the values of a package's enums
unfoldable pub enum_values : List Enum → List Name
enum_values [] = []
enum_values (e ∷ es) = e.variants ++ enum_values es

-- what may be an enum value in a run of the machine m: those of the package, and its resolved states
unfoldable pub values_in : Package → ResolvedMachine → List Name
values_in p m = enum_values p.enums ++ collect_state_names m.states

-- Of a run of the machine m of the package p: the resolved states are enum values, and no other name is that is not drawn as one; what else
-- is asked is as in Premises.
pub record DrawnMachine {O : Type 0} (R : Run O) (N : ℕ) (G : Guards) (p : Package) (m : ResolvedMachine) : Type 0 where
  pub states : (x : Name) → member x (collect_state_names m.states) ≡ true → R.enums x ≡ true
  pub enums : (x : Name) → R.enums x ≡ true → member x (values_in p m) ≡ true
  pub free : none_starts sm_prefix (values_in p m) ≡ true
  pub base : OnEveryCycle R N (equations_of m)
  pub guards : GuardsS R N G m.states
  pub sides : SidesS R N m.states

-- of a run of the activation A of the package p
pub record DrawnAct {O : Type 0} (R : Run O) (N : ℕ) (C : Conditions) (p : Package) (A : Activation) : Type 0 where
  pub enums : (x : Name) → R.enums x ≡ true → member x (enum_values p.enums) ≡ true
  pub free : none_starts act_prefix (enum_values p.enums) ≡ true
  pub base : PortsPresent R N A.outputs
  pub conditions : ConditionsAre R N C (conditions_of A.name A.branches)
