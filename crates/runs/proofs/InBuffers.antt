-- Demand 3 of what a call leaves in the caller's buffers, by the calls' contracts.
use Prim.Native.Nat.{ℕ}
use mathlib.Core.List.{List, ◌++◌}
use mathlib.Core.Path.{◌≡◌, refl, sym, ap, ap₂, subst, ◌∙◌}
use lib.Seq.{take_at}
use lib.ListN.{drop, length, take}
use Rattle.wire.specs.Lists.{Bytes}
use Rattle.pack_rules.specs.Outcome.{Answers, Gives, Outcome, begins, output_of, value_of, writes}
use Rattle.machine_rules.specs.Call.{lower_machines}
use Rattle.activation_rules.specs.Call.{lower_activations}
use Rattle.runs.specs.Claim.{ActivationsLowered, MachinesLowered}
use Rattle.runs.proofs.Demand.{activations-lowered, machines-lowered}
use Rattle.runs.proofs.Zero.{activations-zero, machines-zero}

-- the bytes that a call says it has written are the outcome's pack
pub written-bytes : (x : Outcome) (number value : ℕ) (output output' : List ℕ) (b : List ℕ) → Gives x number value output output' → x ≡ writes b → take value output' ≡ b
unfolding output_of value_of begins
written-bytes x number value output output' b g e =
    let v : value ≡ length b = g.value-is ∙ ap value_of e in
    let o : output' ≡ b ++ drop (length b) output = g.output-is ∙ ap (λ (y : Outcome). output_of y output) e in
    ap₂ (λ (n : ℕ) (l : List ℕ). take n l) v o ∙ take_at b (drop (length b) output) (length b) refl

-- `lower_state_machines` returned 0: the bytes that it wrote are a pack whose every run is a run of the plain chart
pub machine-bytes-run : (O : Type 0) (s output output' report report' : List ℕ) (number value : ℕ) → Bytes s → Answers (lower_machines s (length output) (length report)) number value output output' report report' → number ≡ 0
    → MachinesLowered O s (take value output')
machine-bytes-run O s output output' report report' number value by a e =
    let z = machines-zero s (length output) (length report) (sym a.gives.number_is ∙ e) in
    subst (λ (b : List ℕ). MachinesLowered O s b) (sym (written-bytes (lower_machines s (length output) (length report)) number value output output' z.pack a.gives z.result)) (machines-lowered O s (length output) (length report) z.pack by z.result)

-- `lower_activations` likewise
pub activation-bytes-run : (O : Type 0) (s output output' report report' : List ℕ) (number value : ℕ) → Bytes s → Answers (lower_activations s (length output) (length report)) number value output output' report report' → number ≡ 0
    → ActivationsLowered O s (take value output')
activation-bytes-run O s output output' report report' number value by a e =
    let z = activations-zero s (length output) (length report) (sym a.gives.number_is ∙ e) in
    subst (λ (b : List ℕ). ActivationsLowered O s b) (sym (written-bytes (lower_activations s (length output) (length report)) number value output output' z.pack a.gives z.result)) (activations-lowered O s (length output) (length report) z.pack by z.result)
