-- Scopes on their own cycles, the claim: a scope's value of an output is its right side run over just the cycles in which the scope is chosen,
-- and `last` holds the value of the cycle before.
use Rattle.std.specs.Prelude.{ℕ, ◌<◌, List, [], ◌∷◌, ◌++◌, true, false, ◌≡◌}
use Rattle.std.proofs.Math.Option.{some}
use Rattle.wire.specs.Lists.{Bytes}
use Rattle.pack_rules.specs.Names.{Name}
use Rattle.pack_rules.specs.Outcome.{Outcome, number_of, writes}
use Rattle.pack_rules.specs.Read.{read, whole}
use Rattle.pack_rules.specs.Report.{first_of}
use Rattle.pack_rules.specs.Syntax.{Activation, Enum, Expr, Node, Package, Port, Ty}
use Rattle.machine_rules.specs.Machines.{node_named}
use Rattle.activation_rules.specs.Activations.{made_activations}
use Rattle.activation_rules.specs.Call.{lower_activations}
use Rattle.activation_rules.specs.Defaults.{default_of}
use Rattle.activation_rules.specs.MadeNames.{Scope, act_prefix, last_var}
use Rattle.activation_rules.specs.Sought.{expressions}
use Rattle.activation_rules.specs.Types.{typed, variables}
use Rattle.run_rules.specs.Premises.{starts_with}
use Rattle.run_rules.specs.Run.{Run, Satisfies}
use Rattle.run_rules.specs.Scopes.{Conditions, scope_in}
use Rattle.run_rules.specs.Visits.{DrawnScopes, ScopePremises, all_calls, asks, first_given, last_value, side_of, visit_value}
use Rattle.runs.specs.Claim.{MachinesLowered}
use Rattle.runs.specs.Placement.{act_equations_in, activations_before}

-- An output: in a cycle of a scope it is the right side of that scope, run over just the cycles of that scope. A call of `last` in it is its
-- holder. In each cycle the scope has such a right side.
pub record OwnRun {O : Type 0} (R : Run O) (N : ℕ) (C : Conditions) (A : Activation) (o : Name) : Type 0 where
  pub side : (t : ℕ) → (e : Expr) × (side_of A (scope_in C A t) o ≡ some e)
  pub runs : (s : Scope) (e : Expr) → side_of A s o ≡ some e → (t : ℕ) → t < N → scope_in C A t ≡ s
      → R.at o t ≡ visit_value R N C A s e t

-- all outputs
abbrev pub OwnRuns : {O : Type 0} → Run O → ℕ → Conditions → Activation → List Port → Type 0
OwnRuns R N C A [] = Unit {0}
OwnRuns R N C A (p ∷ ps) = OwnRun R N C A p.name × OwnRuns R N C A ps

-- What `last` of a variable holds: in cycle 0 the value of its first given initial, else of its type's default; then the variable's value in
-- the cycle before.
pub record LastMeans {O : Type 0} (R : Run O) (N : ℕ) (es : List Enum) (A : Activation) (owner : Node) (v : Name) : Type 0 where
  pub type : Ty
  pub drawn : starts_with act_prefix v ≡ false → typed (variables owner) A.outputs v ≡ some type
  pub initial : Expr
  pub given : first_of (first_given v (all_calls (expressions A))) (default_of es type) ≡ some initial
  pub holds : (t : ℕ) → t < N → R.at (last_var A.name v) t ≡ last_value R initial v t

-- the outputs over their scopes' own cycles, and each `last` of a condition or a right side on the clock of every cycle
pub record ScopesRun {O : Type 0} (R : Run O) (N : ℕ) (C : Conditions) (es : List Enum) (A : Activation) (owner : Node) : Type 0 where
  pub outputs : OwnRuns R N C A A.outputs
  pub lasts : (v : Name) → asks v (all_calls (expressions A)) ≡ true → LastMeans R N es A owner v

-- The activation A of the package p, after the activations `pre`, in the package `got`: every run of what stands for it there is one, by the
-- premises as they are drawn, and by those of the run.
pub record ScopesClaim (O : Type 0) (p got : Package) (pre : List Activation) (A : Activation) : Type 0 where
  pub owner : Node
  pub owns : node_named A.owner (activations_before p pre).nodes ≡ some owner
  pub drawn : (R : Run O) (N : ℕ) (C : Conditions) → DrawnScopes R N C p A owner → Satisfies R N (act_equations_in (activations_before p pre) got.nodes got.origins) → ScopesRun R N C p.enums A owner
  pub runs : (R : Run O) (N : ℕ) (C : Conditions) → ScopePremises R N C A owner → Satisfies R N (act_equations_in (activations_before p pre) got.nodes got.origins) → ScopesRun R N C p.enums A owner

-- The pack s holds a package, and the pack b the one that lowering its activations makes of it.
pub record ScopesLowered (O : Type 0) (s b : List ℕ) : Type 0 where
  pub input : Package
  pub reads : read s ≡ whole input
  pub output : Package
  pub reads_back : read b ≡ whole output
  pub nodes : output.nodes ≡ (made_activations input).nodes
  pub origins : output.origins ≡ (made_activations input).origins
  pub for_each : (pre : List Activation) (A : Activation) (post : List Activation) → input.activations ≡ pre ++ (A ∷ post) → ScopesClaim O input output pre A

-- Machines are lowered first, and then activations: every activation of the first pack is run so by what stands for it in the last.
pub record ScopesKept (O : Type 0) (s b c : List ℕ) : Type 0 where
  pub machines : MachinesLowered O s b
  pub activations : ScopesLowered O b c
  pub for_each : (pre : List Activation) (A : Activation) (post : List Activation) → machines.input.activations ≡ pre ++ (A ∷ post) → ScopesClaim O machines.output activations.output pre A

-- the outcome x writes a pack, which is that of the activations lowered
pub record ScopesWritten (O : Type 0) (s : List ℕ) (x : Outcome) : Type 0 where
  pub pack : List ℕ
  pub result : x ≡ writes pack
  pub lowered : ScopesLowered O s pack

-- THE CLAIM, for every pack and every two buffer lengths
pub record OwnCycles : Type 1 where
  pub activations : (O : Type 0) (s : List ℕ) (output report : ℕ) → Bytes s → number_of (lower_activations s output report) ≡ 0 → ScopesWritten O s (lower_activations s output report)
