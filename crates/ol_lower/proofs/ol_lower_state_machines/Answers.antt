use Prim.Native.Nat.{ℕ}
use native.Mathlib.Omega.{arith}
use Rattle.runs.specs.Claim.{MachinesLowered}
use Rattle.pack.proofs.Words.{word-is}
use Rattle.ol_lower.proofs.Words.{word_small}
use Rattle.ol_lower.proofs.ol_lower_state_machines.Goals as goal

pub returns : goal.returns
returns c = let word = c.returned_word.ensures in
    let called = c.lower_state_machines.ensures in record { word = word-is _ _ _ _ word called.answers.gives.number_is called.answers.gives.value-is; output = called.answers.gives.output-is; report = called.answers.report-is; runs = λ small. word_small (MachinesLowered ℕ _) _ _ _ _ word called.runs (omega (arith, small)) }
