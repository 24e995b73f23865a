-- The claim for a package that is known, and for runs that are tested: how instances use it.
use Prim.Native.Nat.{ℕ}
use mathlib.Core.List.{List, [], ◌∷◌, ◌++◌}
use mathlib.Core.Bool.{true, false}
use mathlib.Core.Option.{some, some-injective}
use mathlib.Core.Path.{◌≡◌, refl, sym, ap, subst, ◌∙◌}
use lib.ListN.{length, take}
use Rattle.wire.specs.Lists.{Bytes}
use Rattle.pack_rules.specs.Limits.{max_bytes}
use Rattle.pack_rules.specs.Names.{Name, member}
use Rattle.pack_rules.specs.Outcome.{Answers, Outcome, number_of, output_of, report_of, value_of}
use Rattle.pack_rules.specs.Read.{read, whole}
use Rattle.pack_rules.specs.Syntax.{Activation, Equation, MachineDef, Node, Origin, Package, Port}
use Rattle.machine_rules.specs.Resolved.{ResolvedStates}
use Rattle.pack_rules.specs.Write.{encode}
use Rattle.pack.proofs.WrittenBack.{small_bytes}
use Rattle.machine_rules.specs.Call.{lower_machines}
use Rattle.machine_rules.specs.Machines.{made_machines, node_named}
use Rattle.machine_rules.specs.Resolve.{as_machine, resolved_states, went}
use Rattle.activation_rules.specs.Activations.{made_activations}
use Rattle.activation_rules.specs.Call.{lower_activations}
use Rattle.activation_rules.specs.Holders.{holders_made, make_holders}
use Rattle.activation_rules.specs.Sought.{expressions, found}
use Rattle.activation_rules.specs.Types.{variables}
use Rattle.run_rules.specs.Chart.{Guards}
use Rattle.runs.specs.Claim.{ActClaim, ActivationsLowered, MachineClaim, MachineRun, MachinesLowered, may_read}
use Rattle.run_rules.specs.Premises.{ActPremises, MachinePremises}
use Rattle.run_rules.specs.Run.{Run, Satisfies}
use Rattle.run_rules.specs.Scopes.{Conditions, OutputsGiven}
use Rattle.runs.specs.Placement.{act_equations_in, activations_before, machine_equations_in, machines_before}
use Rattle.runs.proofs.Computing.{act_block, act_premises, activations_number, holding, machine_block, machine_premises, machines_number, owner_of, reading, satisfying, scope_premises, small, walking}
use Rattle.runs.proofs.Demand.{demand-three}
use Rattle.runs.proofs.FromDrawn.{act-drawn, machine-drawn}
use Rattle.run_rules.specs.DemandPremises.{enum_values, values_in}
use Rattle.run_rules.specs.Visits.{DrawnScopes}
use Rattle.runs.specs.OwnCycles.{ScopesClaim, ScopesRun}
use Rattle.runs.proofs.OwnDemand.{own-cycles}
use Rattle.runs.proofs.InBuffers.{activation-bytes-run, machine-bytes-run}
use Rattle.run_rules.proofs.PremisesTested.{act-tested, fed, machine-tested, scopes-tested}
use Rattle.runs.proofs.ReadsBack.{whole_same}
use Rattle.run_rules.proofs.Tested.{satisfies-tested}

same-states : (x y : ResolvedStates) (m n : ℕ) → went x m ≡ went y n → x ≡ y
same-states x y m n e = cc

same-held : (ps qs : List Port) (hs gs : List Equation) → holders_made ps hs ≡ holders_made qs gs → ps ≡ qs
same-held ps qs hs gs e = cc

-- the machine d of a package p whose pack is lowered
module _ (s : List ℕ) (output report : ℕ) (by : Bytes s) (p : Package) (r : read s ≡ whole p) where
  pub machine-used : number_of (lower_machines s output report) ≡ 0 → (pre : List MachineDef) (d : MachineDef) (post : List MachineDef) → p.machines ≡ pre ++ (d ∷ post) → (ss : ResolvedStates) (n : ℕ) → resolved_states p.machines d ≡ went ss n
      → {O : Type 0} (R : Run O) (N : ℕ) (G : Guards) → MachinePremises R N G (as_machine d ss) → Satisfies R N (machine_equations_in d.owner (as_machine d ss) (machines_before p pre) (made_machines p).nodes (made_machines p).origins) → MachineRun R N G (as_machine d ss)
  machine-used e pre d post at ss n w {O} R N G P sat =
      let L = (demand-three.machines O s output report by e).lowered in
      let q : L.input ≡ p = whole_same L.input p (sym L.reads ∙ r) in
      let c : MachineClaim O p L.output pre d = subst (λ (x : Package). x.machines ≡ pre ++ (d ∷ post) → MachineClaim O x L.output pre d) q (λ h. L.for_each pre d post h) at in
      let k : c.states ≡ ss = same-states c.states ss c.count n (sym c.resolved ∙ w) in
      let nodes : (made_machines p).nodes ≡ L.output.nodes = ap (λ (x : Package). (made_machines x).nodes) (sym q) ∙ sym L.nodes in
      let origins : (made_machines p).origins ≡ L.output.origins = ap (λ (x : Package). (made_machines x).origins) (sym q) ∙ sym L.origins in
      let here = subst (λ (x : List Origin). Satisfies R N (machine_equations_in d.owner (as_machine d ss) (machines_before p pre) L.output.nodes x)) origins (subst (λ (x : List Node). Satisfies R N (machine_equations_in d.owner (as_machine d ss) (machines_before p pre) x (made_machines p).origins)) nodes sat) in
      subst (λ (x : ResolvedStates). MachinePremises R N G (as_machine d x) → Satisfies R N (machine_equations_in d.owner (as_machine d x) (machines_before p pre) L.output.nodes L.output.origins) → MachineRun R N G (as_machine d x)) k (c.runs R N G) P here

  -- the activation A, with its owner and the holders' locals
  pub act-used : number_of (lower_activations s output report) ≡ 0 → (pre : List Activation) (A : Activation) (post : List Activation) → p.activations ≡ pre ++ (A ∷ post)
      → (n : Node) → node_named A.owner (activations_before p pre).nodes ≡ some n → (ps : List Port) (hs : List Equation) → make_holders p.enums A.name (variables n) A.outputs (found (expressions A) []) ≡ holders_made ps hs
      → {O : Type 0} (R : Run O) (N : ℕ) (C : Conditions) → ActPremises R N C A → Satisfies R N (act_equations_in (activations_before p pre) (made_activations p).nodes (made_activations p).origins) → OutputsGiven R N C A (may_read A n ps) A.outputs
  act-used e pre A post at n own ps hs holds {O} R N C P sat =
      let L = (demand-three.activations O s output report by e).lowered in
      let q : L.input ≡ p = whole_same L.input p (sym L.reads ∙ r) in
      let c : ActClaim O p L.output pre A = subst (λ (x : Package). x.activations ≡ pre ++ (A ∷ post) → ActClaim O x L.output pre A) q (λ h. L.for_each pre A post h) at in
      let k : c.owner ≡ n = some-injective c.owner n (sym c.owns ∙ own) in
      let h = subst (λ (x : Node). make_holders p.enums A.name (variables x) A.outputs (found (expressions A) []) ≡ holders_made c.ports c.holders) k c.holding in
      let l : c.ports ≡ ps = same-held c.ports ps c.holders hs (sym h ∙ holds) in
      let nodes : (made_activations p).nodes ≡ L.output.nodes = ap (λ (x : Package). (made_activations x).nodes) (sym q) ∙ sym L.nodes in
      let origins : (made_activations p).origins ≡ L.output.origins = ap (λ (x : Package). (made_activations x).origins) (sym q) ∙ sym L.origins in
      let here = subst (λ (x : List Origin). Satisfies R N (act_equations_in (activations_before p pre) L.output.nodes x)) origins (subst (λ (x : List Node). Satisfies R N (act_equations_in (activations_before p pre) x (made_activations p).origins)) nodes sat) in
      subst (λ (x : List Port). OutputsGiven R N C A (may_read A n x) A.outputs) l (subst (λ (x : Node). OutputsGiven R N C A (may_read A x c.ports) A.outputs) k (c.runs R N C P here))

  -- its scopes on their own cycles
  pub scopes-used : number_of (lower_activations s output report) ≡ 0 → (pre : List Activation) (A : Activation) (post : List Activation) → p.activations ≡ pre ++ (A ∷ post)
      → (n : Node) → node_named A.owner (activations_before p pre).nodes ≡ some n
      → {O : Type 0} (R : Run O) (N : ℕ) (C : Conditions) → DrawnScopes R N C p A n → Satisfies R N (act_equations_in (activations_before p pre) (made_activations p).nodes (made_activations p).origins) → ScopesRun R N C p.enums A n
  scopes-used e pre A post at n own {O} R N C P sat =
      let L = (own-cycles.activations O s output report by e).lowered in
      let q : L.input ≡ p = whole_same L.input p (sym L.reads ∙ r) in
      let c : ScopesClaim O p L.output pre A = subst (λ (x : Package). x.activations ≡ pre ++ (A ∷ post) → ScopesClaim O x L.output pre A) q (λ h. L.for_each pre A post h) at in
      let k : c.owner ≡ n = some-injective c.owner n (sym c.owns ∙ own) in
      let nodes : (made_activations p).nodes ≡ L.output.nodes = ap (λ (x : Package). (made_activations x).nodes) (sym q) ∙ sym L.nodes in
      let origins : (made_activations p).origins ≡ L.output.origins = ap (λ (x : Package). (made_activations x).origins) (sym q) ∙ sym L.origins in
      let here = subst (λ (x : List Origin). Satisfies R N (act_equations_in (activations_before p pre) L.output.nodes x)) origins (subst (λ (x : List Node). Satisfies R N (act_equations_in (activations_before p pre) x (made_activations p).origins)) nodes sat) in
      subst (λ (x : Node). DrawnScopes R N C p A x → ScopesRun R N C p.enums A x) k (λ Q. c.drawn R N C Q here) P

-- what is computed of a run of a package's first machine
pub record MachineInstance (p : Package) (d : MachineDef) (ss : ResolvedStates) (n : ℕ) (R : Run ℕ) (N : ℕ) : Type 0 where
  pub others : List MachineDef
  pub first : p.machines ≡ d ∷ others
  pub bytes : small p ≡ true
  pub reads : reading p ≡ whole p
  pub answers : machines_number p ≡ 0
  pub walks : walking p d ≡ went ss n
  pub enums : (x : Name) → R.enums x ≡ member x (values_in p (as_machine d ss))
  pub premises : machine_premises R N p (as_machine d ss) ≡ true
  pub satisfied : satisfying R N (machine_block p d ss) ≡ true

pub machine-instance : (p : Package) (d : MachineDef) (ss : ResolvedStates) (n : ℕ) (R : Run ℕ) (N : ℕ) → MachineInstance p d ss n R N → MachineRun R N (fed R) (as_machine d ss)
unfolding small reading machines_number walking machine_premises satisfying machine_block as_machine
machine-instance p d ss n R N i =
    machine-used (encode p) max_bytes max_bytes (small_bytes (encode p) i.bytes) p i.reads i.answers [] d i.others i.first ss n i.walks R N (fed R)
    (machine-drawn R N (fed R) p (as_machine d ss) (machine-tested R N p (as_machine d ss) i.enums i.premises)) (satisfies-tested R N (machine_equations_in d.owner (as_machine d ss) (machines_before p []) (made_machines p).nodes (made_machines p).origins) i.satisfied)

-- and of a package's only activation
pub record ActInstance (p : Package) (A : Activation) (n : Node) (ps : List Port) (hs : List Equation) (R : Run ℕ) (N : ℕ) : Type 0 where
  pub only : p.activations ≡ A ∷ []
  pub bytes : small p ≡ true
  pub reads : reading p ≡ whole p
  pub answers : activations_number p ≡ 0
  pub owner : owner_of p A ≡ some n
  pub holds : holding p A n ≡ holders_made ps hs
  pub enums : (x : Name) → R.enums x ≡ member x (enum_values p.enums)
  pub premises : act_premises R N p A ≡ true
  pub satisfied : satisfying R N (act_block p) ≡ true

pub act-instance : (p : Package) (A : Activation) (n : Node) (ps : List Port) (hs : List Equation) (R : Run ℕ) (N : ℕ) → ActInstance p A n ps hs R N → OutputsGiven R N (fed R) A (may_read A n ps) A.outputs
unfolding small reading activations_number owner_of holding act_premises satisfying act_block
act-instance p A n ps hs R N i =
    act-used (encode p) max_bytes max_bytes (small_bytes (encode p) i.bytes) p i.reads i.answers [] A [] i.only n i.owner ps hs i.holds R N (fed R)
    (act-drawn R N (fed R) p A (act-tested R N p A i.enums i.premises)) (satisfies-tested R N (act_equations_in (activations_before p []) (made_activations p).nodes (made_activations p).origins) i.satisfied)

-- the same of its scopes on their own cycles, where its conditions and right sides allow it
pub scopes-instance : (p : Package) (A : Activation) (n : Node) (ps : List Port) (hs : List Equation) (R : Run ℕ) (N : ℕ) → ActInstance p A n ps hs R N → scope_premises p A n ≡ true → ScopesRun R N (fed R) p.enums A n
unfolding small reading activations_number owner_of act_premises satisfying act_block scope_premises
scopes-instance p A n ps hs R N i j =
    scopes-used (encode p) max_bytes max_bytes (small_bytes (encode p) i.bytes) p i.reads i.answers [] A [] i.only n i.owner R N (fed R)
    (scopes-tested R N p A n i.enums i.premises j)
    (satisfies-tested R N (act_equations_in (activations_before p []) (made_activations p).nodes (made_activations p).origins) i.satisfied)

-- the same pack in a caller's buffers: what a call leaves there
abbrev Left : Outcome → List ℕ → List ℕ
Left x output = take (value_of x) (output_of x output)

answers_of : (x : Outcome) (output report : List ℕ) → Answers x (number_of x) (value_of x) output (output_of x output) report (report_of x report)
answers_of x output report = record { gives = record { number_is = refl; value-is = refl; output-is = refl }; report-is = refl }

pub machine-in-buffers : (p : Package) (d : MachineDef) (ss : ResolvedStates) (n : ℕ) (R : Run ℕ) (N : ℕ) → MachineInstance p d ss n R N → (output report : List ℕ) → length output ≡ max_bytes → length report ≡ max_bytes
    → MachinesLowered ℕ (encode p) (Left (lower_machines (encode p) (length output) (length report)) output)
unfolding small machines_number
machine-in-buffers p d ss n R N i output report o r =
    let x = lower_machines (encode p) (length output) (length report) in
    machine-bytes-run ℕ (encode p) output (output_of x output) report (report_of x report) (number_of x) (value_of x) (small_bytes (encode p) i.bytes) (answers_of x output report) (rw (o, r) i.answers)

pub act-in-buffers : (p : Package) (A : Activation) (n : Node) (ps : List Port) (hs : List Equation) (R : Run ℕ) (N : ℕ) → ActInstance p A n ps hs R N → (output report : List ℕ) → length output ≡ max_bytes → length report ≡ max_bytes
    → ActivationsLowered ℕ (encode p) (Left (lower_activations (encode p) (length output) (length report)) output)
unfolding small activations_number
act-in-buffers p A n ps hs R N i output report o r =
    let x = lower_activations (encode p) (length output) (length report) in
    activation-bytes-run ℕ (encode p) output (output_of x output) report (report_of x report) (number_of x) (value_of x) (small_bytes (encode p) i.bytes) (answers_of x output report) (rw (o, r) i.answers)
