use Prim.Native.Nat.{ℕ}
use native.Mathlib.Omega.{arith}
use Rattle.runs.proofs.InBuffers.{activation-bytes-run}
use Rattle.runs.proofs.OwnDemand.{scope-bytes-run}
use Rattle.runs.proofs.calls.lower_activations.Goals as goal

pub returns : goal.returns
returns c = record { answers = c.lower_activations.ensures.answers; fits = c.lower_activations.ensures.fits; runs = (λ e. activation-bytes-run ℕ c.args.pack.now _ _ _ _ _ _ (λ i. omega (arith, c.type_inv.pack i)) c.lower_activations.ensures.answers e); scopes = λ e. scope-bytes-run ℕ c.args.pack.now _ _ _ _ _ _ (λ i. omega (arith, c.type_inv.pack i)) c.lower_activations.ensures.answers e }
