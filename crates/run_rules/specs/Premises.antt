-- What the demand presupposes of a run. Its premises that names differ, that no other definition of the kind shares the node and that no
-- name is made for two things are not needed: a run says which names are enum values, and is one of the definition's own equations.
use Rattle.std.specs.Prelude.{◌≡◌, List, [], ◌∷◌, Bool, true, false, ◌&&◌, ℕ, ◌<◌, eqb}
use Rattle.std.proofs.Math.Option.{some}
use Rattle.pack_rules.specs.Names.{Name, member}
use Rattle.pack_rules.specs.Syntax.{Activation, Equation, Expr, Port, Transition}
use Rattle.machine_rules.specs.Resolved.{ResolvedMachine, ResolvedRegions, ResolvedStates, r_cons, r_nil, s_cons, s_nil}
use Rattle.machine_rules.specs.MadeNames.{sm_prefix}
use Rattle.machine_rules.specs.Lower.{equations_of}
use Rattle.machine_rules.specs.Checks.{collect_state_names}
use Rattle.activation_rules.specs.MadeNames.{act_prefix}
use Rattle.activation_rules.specs.RewriteLast.{conditions_of}
use Rattle.run_rules.specs.Run.{Run, Value, clock_of, eval, every, v_bool}
use Rattle.run_rules.specs.Chart.{Guards}
use Rattle.run_rules.specs.Scopes.{Conditions}

-- whether a name begins with a prefix
unfoldable pub starts_with : Name → Name → Bool
starts_with [] ys = true
starts_with (x ∷ xs) [] = false
starts_with (x ∷ xs) (y ∷ ys) = eqb x y && starts_with xs ys

-- a variable is present in every cycle of a run of N cycles
abbrev pub Present : {O : Type 0} → Run O → ℕ → Name → Type 0
Present R N x = (t : ℕ) → t < N → clock_of R x t ≡ true

-- so are all left names of an equation
abbrev pub Presents : {O : Type 0} → Run O → ℕ → List Name → Type 0
Presents R N [] = Unit {0}
Presents R N (x ∷ xs) = Present R N x × Presents R N xs

-- so is what equations define
abbrev pub OnEveryCycle : {O : Type 0} → Run O → ℕ → List Equation → Type 0
OnEveryCycle R N [] = Unit {0}
OnEveryCycle R N (e ∷ es) = Presents R N e.lhs × OnEveryCycle R N es

-- so are ports
abbrev pub PortsPresent : {O : Type 0} → Run O → ℕ → List Port → Type 0
PortsPresent R N [] = Unit {0}
PortsPresent R N (p ∷ ps) = Present R N p.name × PortsPresent R N ps

-- guards are true or false in every cycle, as the chart is fed
abbrev pub GuardsT : {O : Type 0} → Run O → ℕ → Guards → List Transition → Type 0
GuardsT R N G [] = Unit {0}
GuardsT R N G (x ∷ ts) = ((t : ℕ) → t < N → eval R x.guard every t ≡ some (v_bool (G x.guard t))) × GuardsT R N G ts

-- those of all states and regions
abbrev mutual
  pub GuardsS : {O : Type 0} → Run O → ℕ → Guards → ResolvedStates → Type 0
  GuardsS R N G s_nil = Unit {0}
  GuardsS R N G (s_cons s es ts rs rest) = GuardsT R N G ts × GuardsR R N G rs × GuardsS R N G rest

  pub GuardsR : {O : Type 0} → Run O → ℕ → Guards → ResolvedRegions → Type 0
  GuardsR R N G r_nil = Unit {0}
  GuardsR R N G (r_cons i h ss rest) = GuardsS R N G ss × GuardsR R N G rest

-- conditions are true or false in every cycle
abbrev pub ConditionsAre : {O : Type 0} → Run O → ℕ → Conditions → List Expr → Type 0
ConditionsAre R N C [] = Unit {0}
ConditionsAre R N C (c ∷ cs) = ((t : ℕ) → t < N → eval R c every t ≡ some (v_bool (C c t))) × ConditionsAre R N C cs

-- an expression has a value in a cycle
abbrev pub HasValue : {O : Type 0} → Run O → ℕ → Expr → Type 0
HasValue {O} R t e = (v : Value O) × (eval R e every t ≡ some v)

-- right sides have a value in every cycle
abbrev pub SidesE : {O : Type 0} → Run O → ℕ → List Equation → Type 0
SidesE R N [] = Unit {0}
SidesE R N (e ∷ es) = ((t : ℕ) → t < N → HasValue R t e.rhs) × SidesE R N es

-- those of all states and regions
abbrev mutual
  pub SidesS : {O : Type 0} → Run O → ℕ → ResolvedStates → Type 0
  SidesS R N s_nil = Unit {0}
  SidesS R N (s_cons s es ts rs rest) = SidesE R N es × SidesR R N rs × SidesS R N rest

  pub SidesR : {O : Type 0} → Run O → ℕ → ResolvedRegions → Type 0
  SidesR R N r_nil = Unit {0}
  SidesR R N (r_cons i h ss rest) = SidesS R N ss × SidesR R N rest

-- For a resolved machine:
-- - states: the names of its states are enum values;
-- - free: no enum value has a name that starts `__sm_`;
-- - base: all that its equations define is present in every cycle;
-- - guards: each guard has a truth value in every cycle, the one that the chart is fed;
-- - sides: each right side of its states has a value in every cycle.
pub record MachinePremises {O : Type 0} (R : Run O) (N : ℕ) (G : Guards) (m : ResolvedMachine) : Type 0 where
  pub states : (x : Name) → member x (collect_state_names m.states) ≡ true → R.enums x ≡ true
  pub free : (x : Name) → starts_with sm_prefix x ≡ true → R.enums x ≡ false
  pub base : OnEveryCycle R N (equations_of m)
  pub guards : GuardsS R N G m.states
  pub sides : SidesS R N m.states

-- For an activation:
-- - free: no enum value has a name that starts `__act_`;
-- - base: its outputs are present in every cycle;
-- - conditions: each condition, `last` replaced, has a truth value in every cycle.
pub record ActPremises {O : Type 0} (R : Run O) (N : ℕ) (C : Conditions) (A : Activation) : Type 0 where
  pub free : (x : Name) → starts_with act_prefix x ≡ true → R.enums x ≡ false
  pub base : PortsPresent R N A.outputs
  pub conditions : ConditionsAre R N C (conditions_of A.name A.branches)
