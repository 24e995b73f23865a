-- Demand 3: every run of the equations that a lowering writes for a definition is a run of the plain chart, or of the chosen scopes.
use Rattle.std.specs.Prelude.{ℕ, zero, suc, ◌<◌, Bool, List, [], ◌∷◌, ◌++◌, ◌≡◌}
use Rattle.std.proofs.Math.Option.{Option, some}
use Rattle.wire.specs.Lists.{Bytes}
use Rattle.pack_rules.specs.Forms.{name_at}
use Rattle.pack_rules.specs.Names.{Name}
use Rattle.pack_rules.specs.Outcome.{Outcome, number_of, writes}
use Rattle.pack_rules.specs.Read.{read, whole}
use Rattle.pack_rules.specs.Syntax.{Activation, Equation, Expr, MachineDef, Node, Package, Port, of_activation}
use Rattle.machine_rules.specs.Resolved.{ResolvedMachine, ResolvedStates}
use Rattle.machine_rules.specs.Call.{lower_machines}
use Rattle.machine_rules.specs.Machines.{made_machines, node_named}
use Rattle.machine_rules.specs.MadeNames.{active_var, next_var, state_var}
use Rattle.machine_rules.specs.Resolve.{as_machine, resolved_states, went}
use Rattle.activation_rules.specs.Activations.{made_activations}
use Rattle.activation_rules.specs.Call.{lower_activations}
use Rattle.activation_rules.specs.Checks.{branch_names, else_name}
use Rattle.activation_rules.specs.Holders.{holders_made, make_holders}
use Rattle.activation_rules.specs.Lower.{act_equations}
use Rattle.activation_rules.specs.Sought.{expressions, found}
use Rattle.activation_rules.specs.Types.{readable, variables}
use Rattle.run_rules.specs.DemandPremises.{DrawnAct, DrawnMachine}
use Rattle.run_rules.specs.Chart.{Guards, RegionMemory, found_in, memories_in, selected}
use Rattle.run_rules.specs.Premises.{ActPremises, MachinePremises}
use Rattle.run_rules.specs.Run.{Run, Value, eval, every, Satisfies, v_bool, v_enum}
use Rattle.run_rules.specs.Scopes.{Conditions, OutputsGiven}
use Rattle.runs.specs.Placement.{Block, PlacedIn, act_equations_in, activations_before, machine_equations_in, machines_before}
use Rattle.run_rules.specs.StatedDirectly.{StatedDirectly}

-- in a cycle the regions from n on have these states
abbrev pub StatesAre : {O : Type 0} → Run O → ℕ → ℕ → List Name → Type 0
StatesAre R t n [] = Unit {0}
StatesAre R t n (f ∷ fs) = (R.at (state_var n) t ≡ some (v_enum f)) × StatesAre R t (suc n) fs

-- whether a region is active; the top region always is, and no variable is made for it
abbrev pub ActiveIs : {O : Type 0} → Run O → ℕ → ℕ → Bool → Type 0
ActiveIs R t zero b = Unit {0}
ActiveIs R t (suc n) b = R.at (active_var (suc n)) t ≡ some (v_bool b)

-- in a cycle the regions from n on keep this: the next state, chosen or kept, and whether the region is active
abbrev pub KeptAre : {O : Type 0} → Run O → ℕ → ℕ → List RegionMemory → Type 0
KeptAre R t n [] = Unit {0}
KeptAre R t n (k ∷ ks) = (R.at (next_var n) t ≡ some (v_enum k.state)) × ActiveIs R t n k.was_active × KeptAre R t (suc n) ks

-- a right side is selected, and its value in the cycle is w
abbrev pub Picks : {O : Type 0} → Run O → ℕ → Option Expr → Option (Value O) → Type 0
Picks R t selected w = (e : Expr) × (selected ≡ some e) × (w ≡ eval R e every t)

-- each output equals the right side that the found states select
abbrev pub OutputsAre : {O : Type 0} → Run O → ℕ → Guards → ResolvedMachine → List Port → Type 0
OutputsAre R N G m [] = Unit {0}
OutputsAre R N G m (p ∷ ps) = ((t : ℕ) → t < N → Picks R t (selected (name_at (found_in G m t)) m p.name) (R.at p.name t)) × OutputsAre R N G m ps

-- A run of N cycles of a machine's equations: in every cycle each region's state is the one that the plain chart finds, its next state and
-- whether it is active are what the chart keeps then, and each output equals the selected right side; and the demand's own sentence.
pub record MachineRun {O : Type 0} (R : Run O) (N : ℕ) (G : Guards) (m : ResolvedMachine) : Type 0 where
  pub found : (t : ℕ) → t < N → StatesAre R t 0 (found_in G m t)
  pub kept : (t : ℕ) → t < N → KeptAre R t 0 (memories_in G m (suc t))
  pub words : StatedDirectly R N G m
  pub outputs : OutputsAre R N G m m.outputs

-- The machine d of the package p, after the machines `pre`, in the package `output`: its equations stand there, and every run of what stands
-- for it there is one. O are the values of the run that are neither truth values nor enum values: the claim is for each O.
pub record MachineClaim (O : Type 0) (p output : Package) (pre : List MachineDef) (d : MachineDef) : Type 0 where
  pub states : ResolvedStates
  pub count : ℕ
  pub resolved : resolved_states p.machines d ≡ went states count
  pub stands : PlacedIn d.owner (as_machine d states) (machines_before p pre) output.nodes output.origins
  pub runs : (R : Run O) (N : ℕ) (G : Guards) → MachinePremises R N G (as_machine d states) → Satisfies R N (machine_equations_in d.owner (as_machine d states) (machines_before p pre) output.nodes output.origins) → MachineRun R N G (as_machine d states)

-- what an activation's scopes may read: the owner's variables, the holders and the outputs
unfoldable pub may_read : Activation → Node → List Port → List Name
may_read A n holders = readable (variables n ++ holders) A.outputs

-- The activation A, after the activations `pre`. Its owner is the node as it was then.
pub record ActClaim (O : Type 0) (p output : Package) (pre : List Activation) (A : Activation) : Type 0 where
  pub owner : Node
  pub owns : node_named A.owner (activations_before p pre).nodes ≡ some owner
  pub ports : List Port
  pub holders : List Equation
  pub holding : make_holders p.enums A.name (variables owner) A.outputs (found (expressions A) []) ≡ holders_made ports holders
  pub stands : Block of_activation A.name A.owner (branch_names A.branches ++ (else_name ∷ [])) (act_equations A holders (may_read A owner ports)) (activations_before p pre) output.nodes output.origins
  pub runs : (R : Run O) (N : ℕ) (C : Conditions) → ActPremises R N C A → Satisfies R N (act_equations_in (activations_before p pre) output.nodes output.origins) → OutputsGiven R N C A (may_read A owner ports) A.outputs

-- The pack s holds a package, and the pack b reads as the package that lowering its machines makes of it.
pub record MachinesLowered (O : Type 0) (s b : List ℕ) : Type 0 where
  pub input : Package
  pub reads : read s ≡ whole input
  pub unrefused : (made_machines input).refusals ≡ []
  pub output : Package
  pub reads_back : read b ≡ whole output
  pub added_names : List Name
  pub names : output.names ≡ input.names ++ added_names
  pub enums : output.enums ≡ (made_machines input).enums
  pub nodes : output.nodes ≡ (made_machines input).nodes
  pub machines : output.machines ≡ []
  pub activations : output.activations ≡ input.activations
  pub origins : output.origins ≡ (made_machines input).origins
  pub for_each : (pre : List MachineDef) (d : MachineDef) (post : List MachineDef) → input.machines ≡ pre ++ (d ∷ post) → MachineClaim O input output pre d

-- the same of activations
pub record ActivationsLowered (O : Type 0) (s b : List ℕ) : Type 0 where
  pub input : Package
  pub reads : read s ≡ whole input
  pub unrefused : (made_activations input).refusals ≡ []
  pub output : Package
  pub reads_back : read b ≡ whole output
  pub added_names : List Name
  pub names : output.names ≡ input.names ++ added_names
  pub enums : output.enums ≡ input.enums
  pub nodes : output.nodes ≡ (made_activations input).nodes
  pub machines : output.machines ≡ input.machines
  pub activations : output.activations ≡ []
  pub origins : output.origins ≡ (made_activations input).origins
  pub for_each : (pre : List Activation) (A : Activation) (post : List Activation) → input.activations ≡ pre ++ (A ∷ post) → ActClaim O input output pre A

-- The pack s holds a package whose machines were lowered, and the pack c is what lowering the activations after that wrote: the machines'
-- equations still stand there, with the same runs.
pub record MachinesKept (O : Type 0) (s c : List ℕ) : Type 0 where
  pub input : Package
  pub reads : read s ≡ whole input
  pub output : Package
  pub reads_back : read c ≡ whole output
  pub for_each : (pre : List MachineDef) (d : MachineDef) (post : List MachineDef) → input.machines ≡ pre ++ (d ∷ post) → MachineClaim O input output pre d

-- The same of activations: for every activation of the pack s, by what stands for it in the last pack.
pub record ActivationsKept (O : Type 0) (s b c : List ℕ) : Type 0 where
  pub machines : MachinesLowered O s b
  pub activations : ActivationsLowered O b c
  pub for_each : (pre : List Activation) (A : Activation) (post : List Activation) → machines.input.activations ≡ pre ++ (A ∷ post) → ActClaim O machines.output activations.output pre A

-- the outcome x writes a pack, which is that of the machines lowered
pub record MachinesWritten (O : Type 0) (s : List ℕ) (x : Outcome) : Type 0 where
  pub pack : List ℕ
  pub result : x ≡ writes pack
  pub lowered : MachinesLowered O s pack

-- the same of activations
pub record ActivationsWritten (O : Type 0) (s : List ℕ) (x : Outcome) : Type 0 where
  pub pack : List ℕ
  pub result : x ≡ writes pack
  pub lowered : ActivationsLowered O s pack

-- THE CLAIM, for every pack and every two buffer lengths: all definitions of a pack are accepted where its lowering returns 0
pub record DemandThree : Type 1 where
  pub machines : (O : Type 0) (s : List ℕ) (output report : ℕ) → Bytes s → number_of (lower_machines s output report) ≡ 0 → MachinesWritten O s (lower_machines s output report)
  pub activations : (O : Type 0) (s : List ℕ) (output report : ℕ) → Bytes s → number_of (lower_activations s output report) ≡ 0 → ActivationsWritten O s (lower_activations s output report)

-- a pack is written, and every run of what stands there for a machine of the held package is one of the plain chart
pub record DrawnMachines (O : Type 0) (s : List ℕ) (x : Outcome) : Type 0 where
  pub written : MachinesWritten O s x
  pub runs : (pre : List MachineDef) (d : MachineDef) (post : List MachineDef) (here : written.lowered.input.machines ≡ pre ++ (d ∷ post)) (R : Run O) (N : ℕ) (G : Guards)
      → DrawnMachine R N G written.lowered.input (as_machine d (written.lowered.for_each pre d post here).states)
      → Satisfies R N (machine_equations_in d.owner (as_machine d (written.lowered.for_each pre d post here).states) (machines_before written.lowered.input pre) written.lowered.output.nodes written.lowered.output.origins)
      → MachineRun R N G (as_machine d (written.lowered.for_each pre d post here).states)

-- the same of activations: each output is what the scope of the cycle gives
pub record DrawnActivations (O : Type 0) (s : List ℕ) (x : Outcome) : Type 0 where
  pub written : ActivationsWritten O s x
  pub runs : (pre : List Activation) (A : Activation) (post : List Activation) (here : written.lowered.input.activations ≡ pre ++ (A ∷ post)) (R : Run O) (N : ℕ) (C : Conditions)
      → DrawnAct R N C written.lowered.input A
      → Satisfies R N (act_equations_in (activations_before written.lowered.input pre) written.lowered.output.nodes written.lowered.output.origins)
      → OutputsGiven R N C A (may_read A (written.lowered.for_each pre A post here).owner (written.lowered.for_each pre A post here).ports) A.outputs

-- THE CLAIM by the demand's own premises, for every pack and every two buffer lengths
pub record DemandDrawn : Type 1 where
  pub machines : (O : Type 0) (s : List ℕ) (output report : ℕ) → Bytes s → number_of (lower_machines s output report) ≡ 0 → DrawnMachines O s (lower_machines s output report)
  pub activations : (O : Type 0) (s : List ℕ) (output report : ℕ) → Bytes s → number_of (lower_activations s output report) ≡ 0 → DrawnActivations O s (lower_activations s output report)
