-- Demand 3, proved: from the equations of a machine and of an activation to what the lowerings write.
use Prim.Native.Nat.{ℕ, suc, ◌<◌}
use mathlib.Core.List.{List, [], ◌∷◌, ◌++◌}
use mathlib.Core.Option.{Option, none, some}
use mathlib.Core.Path.{◌≡◌, refl, sym, ap, subst, ◌∙◌}
use lib.ListN.{length, take}
use lib.Seq.{take-append_seam}
use Rattle.wire.specs.Lists.{Bytes}
use Rattle.pack_rules.specs.Legal.{completed, new_names, with_names}
use Rattle.pack_rules.specs.Names.{Name}
use Rattle.pack_rules.specs.Outcome.{writes}
use Rattle.pack_rules.specs.Syntax.{Activation, Equation, Expr, MachineDef, Node, Origin, OriginKind, Package, Port, of_activation}
use Rattle.machine_rules.specs.Resolved.{ResolvedMachine}
use Rattle.machine_rules.specs.Call.{lower_machines}
use Rattle.machine_rules.specs.Checks.{refusal_of}
use Rattle.machine_rules.specs.Lower.{equations_of}
use Rattle.machine_rules.specs.Machines.{Progress, machines_lowered, made_machines}
use Rattle.machine_rules.specs.Resolve.{as_machine}
use Rattle.activation_rules.specs.Activations.{activations_lowered, made_activations}
use Rattle.activation_rules.specs.Call.{lower_activations}
use Rattle.activation_rules.specs.Checks.{branch_names, else_name}
use Rattle.activation_rules.specs.Lower.{act_equations}
use Rattle.activations.proofs.Joined.{activations-enums}
use Rattle.run_rules.specs.Chart.{Guards, RegionMemory, top_of}
use Rattle.runs.specs.Claim.{ActClaim, ActivationsLowered, DemandThree, KeptAre, MachineClaim, MachineRun, MachinesLowered, OutputsAre, Picks, StatesAre, may_read}
use Rattle.run_rules.specs.Premises.{MachinePremises}
use Rattle.run_rules.specs.Run.{Run, Satisfies}
use Rattle.run_rules.specs.StatedDirectly.{always}
use Rattle.runs.specs.Placement.{Block, PlacedIn, act_equations_in, activations_before, equations_from, machine_equations_in, machines_before}
use Rattle.runs.proofs.ActRuns.{act_run}
use Rattle.runs.proofs.ActsStand.{ActWritten, act-written}
use Rattle.runs.proofs.ChartStreams.{at_each, found-is, kept-is, kepts_r}
use Rattle.runs.proofs.InWords.{in_words}
use Rattle.runs.proofs.KeptRuns.{kept_numbered}
use Rattle.runs.proofs.MachineRuns.{RunIsChart, outputs_picked, run-is-chart}
use Rattle.runs.proofs.MachinesStand.{MachineWritten, block-stands, machine-written}
use Rattle.runs.proofs.NotRefused.{not-refused, not-refused-act}
use Rattle.runs.proofs.ReadsBack.{activations-read-back, less_activations, less_machines, machines-read-back}
use Rattle.runs.proofs.Selecting.{picked-is}
use Rattle.runs.proofs.Streams.{chart}
use Rattle.runs.proofs.TreeRuns.{numbered}
use Rattle.runs.proofs.Zero.{activations-zero, machines-zero}

-- the states that the chart finds
states-are : {O : Type 0} (R : Run O) (N n : ℕ) (fs : List (ℕ → Name)) → numbered R N n fs → (t : ℕ) → t < N → StatesAre R t n (at_each t fs)
unfolding at_each
states-are R N n [] p t lt = tt
states-are R N n (f ∷ fs) p t lt = (p.0 t lt, states-are R N (suc n) fs p.1 t lt)

all-kept : {O : Type 0} (R : Run O) (N n : ℕ) (ks : List (ℕ → RegionMemory)) → kept_numbered R N n ks → (t : ℕ) → t < N → KeptAre R t n (at_each (suc t) ks)
unfolding at_each
all-kept R N n [] p t lt = tt
all-kept R N n (k ∷ ks) p t lt = ((p.0 t lt).0, (p.0 t lt).1, all-kept R N (suc n) ks p.1 t lt)

outputs-are : {O : Type 0} (R : Run O) (N : ℕ) (G : Guards) (m : ResolvedMachine) (ps : List Port) → outputs_picked R N G m ps → OutputsAre R N G m ps
outputs-are R N G m [] h = tt
outputs-are R N G m (p ∷ ps) h =
    ((λ t lt. subst (λ (x : Option Expr). Picks R t x (R.at p.name t)) (picked-is G m p.name t) (h.0 t lt)), outputs-are R N G m ps h.1)

-- a run of an accepted machine's equations
pub machine-run : {O : Type 0} (R : Run O) (N : ℕ) (G : Guards) (m : ResolvedMachine) → refusal_of m ≡ none → MachinePremises R N G m → Satisfies R N (equations_of m) → MachineRun R N G m
machine-run R N G m ok P sat =
    let c : RunIsChart R N G m = run-is-chart R N G m (not-refused m ok) P sat in
    record {
      found = λ t lt. subst (λ (x : List Name). StatesAre R t 0 x) (sym (found-is G m t)) (states-are R N 0 (chart G m) c.found t lt);
      kept = λ t lt. subst (λ (x : List RegionMemory). KeptAre R t 0 x) (sym (kept-is G m (suc t))) (all-kept R N 0 (kepts_r G always (top_of m)) c.kept t lt);
      words = in_words R N G m c.found;
      outputs = outputs-are R N G m m.outputs c.outputs;
    }

-- what stands for a machine are its equations
pub own-stands : (o : Option Name) (m : ResolvedMachine) (k : Progress) (nodes : List Node) (origins : List Origin) → PlacedIn o m k nodes origins → machine_equations_in o m k nodes origins ≡ equations_of m
unfolding machine_equations_in equations_from
own-stands none m k nodes origins s =
    ap (λ (es : List Equation). take (length (equations_of m)) es) (ap equations_from s.stays ∙ s.stands) ∙ take-append_seam (equations_of m) s.later
own-stands (some o) m k nodes origins s = block-stands s

machine-stands : {O : Type 0} (R : Run O) (N : ℕ) (o : Option Name) (m : ResolvedMachine) (k : Progress) (nodes : List Node) (origins : List Origin) → PlacedIn o m k nodes origins
    → Satisfies R N (machine_equations_in o m k nodes origins) → Satisfies R N (equations_of m)
machine-stands R N o m k nodes origins s sat = subst (λ (es : List Equation). Satisfies R N es) (own-stands o m k nodes origins s) sat

pub act-stands : {O : Type 0} (R : Run O) (N : ℕ) (kind : OriginKind) (name owner : Name) (branches : List Name) (es : List Equation) (k : Progress) (nodes : List Node) (origins : List Origin) → Block kind name owner branches es k nodes origins
    → Satisfies R N (act_equations_in k nodes origins) → Satisfies R N es
unfolding act_equations_in
act-stands R N kind name owner branches es k nodes origins s sat =
    subst (λ (xs : List Equation). Satisfies R N xs) (block-stands s) sat

-- one machine of a package
machine-claim : (O : Type 0) (p : Package) → (made_machines p).refusals ≡ [] → (pre : List MachineDef) (d : MachineDef) (post : List MachineDef) → p.machines ≡ pre ++ (d ∷ post) → MachineClaim O p (completed (less_machines p)) pre d
unfolding completed with_names machines_lowered
machine-claim O p unrefused pre d post e =
    let w : MachineWritten p pre d = machine-written p unrefused pre d post e in
    let m = as_machine d w.pass.states in
    record {
      states = w.pass.states;
      count = w.pass.count;
      resolved = w.pass.walk;
      stands = w.place;
      runs = λ R N G P sat. machine-run R N G m w.pass.unrefused P (machine-stands R N d.owner m (machines_before p pre) (made_machines p).nodes (made_machines p).origins w.place sat);
    }

-- one activation of a package
act-claim : (O : Type 0) (p : Package) → (made_activations p).refusals ≡ [] → (pre : List Activation) (A : Activation) (post : List Activation) → p.activations ≡ pre ++ (A ∷ post) → ActClaim O p (completed (less_activations p)) pre A
unfolding completed with_names activations_lowered
act-claim O p unrefused pre A post e =
    let w : ActWritten p pre A = act-written p unrefused pre A post e in
    let vars = may_read A w.owner w.pass.ports in
    record {
      owner = w.owner;
      owns = w.owns;
      ports = w.pass.ports;
      holders = w.pass.holders;
      holding = w.pass.holding;
      stands = w.place;
      runs = λ R N C P sat.
          act_run R N C A w.pass.holders vars (not-refused-act A w.pass.unrefused) P
          (act-stands R N of_activation A.name A.owner (branch_names A.branches ++ (else_name ∷ [])) (act_equations A w.pass.holders vars) (activations_before p pre) (made_activations p).nodes (made_activations p).origins w.place sat);
    }

-- a pack of machines that is lowered to b
pub machines-lowered : (O : Type 0) (s : List ℕ) (output report : ℕ) (b : List ℕ) → Bytes s → lower_machines s output report ≡ writes b → MachinesLowered O s b
unfolding completed with_names machines_lowered
machines-lowered O s output report b by e =
    let w = machines-read-back s output report b by e in
    let p = w.input in
    record {
      input = p;
      reads = w.reads;
      unrefused = w.unrefused;
      output = completed (less_machines p);
      reads_back = w.reads_back;
      added_names = new_names (less_machines p);
      names = refl;
      enums = refl;
      nodes = refl;
      machines = refl;
      activations = refl;
      origins = refl;
      for_each = machine-claim O p w.unrefused;
    }

-- a pack of activations that is lowered to b
pub activations-lowered : (O : Type 0) (s : List ℕ) (output report : ℕ) (b : List ℕ) → Bytes s → lower_activations s output report ≡ writes b → ActivationsLowered O s b
unfolding completed with_names activations_lowered
activations-lowered O s output report b by e =
    let w = activations-read-back s output report b by e in
    let p = w.input in
    record {
      input = p;
      reads = w.reads;
      unrefused = w.unrefused;
      output = completed (less_activations p);
      reads_back = w.reads_back;
      added_names = new_names (less_activations p);
      names = refl;
      enums = activations-enums p;
      nodes = refl;
      machines = refl;
      activations = refl;
      origins = refl;
      for_each = act-claim O p w.unrefused;
    }

-- Demand 3, all of it: every pack, every two buffer lengths
pub demand-three : DemandThree
demand-three =
    record {
      machines = λ O s output report by e.
          let z = machines-zero s output report e in
          record { pack = z.pack; result = z.result; lowered = machines-lowered O s output report z.pack by z.result };
      activations = λ O s output report by e.
          let z = activations-zero s output report e in
          record { pack = z.pack; result = z.result; lowered = activations-lowered O s output report z.pack by z.result };
    }
