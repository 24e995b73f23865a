use Prim.Native.Nat.{ℕ}
use native.Mathlib.Omega.{arith}
use Rattle.machines.proofs.OutcomeSmall.{lowered-fits, table_fits}
use Rattle.runs.proofs.InBuffers.{machine-bytes-run}
use Rattle.runs.proofs.calls.lower_state_machines.Goals as goal

pub returns : goal.returns
returns c = record { answers = c.lower_state_machines.ensures; fits = table_fits _ _ _ _ _ (lowered-fits _ _ _ (λ i. omega (arith, c.type_inv.pack i))) c.lower_state_machines.ensures.gives; runs = λ e. machine-bytes-run ℕ c.args.pack.now _ _ _ _ _ _ (λ i. omega (arith, c.type_inv.pack i)) c.lower_state_machines.ensures e }
