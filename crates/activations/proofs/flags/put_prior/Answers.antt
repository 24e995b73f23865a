use native.Mathlib.Omega.{arith}
use Rattle.activations.proofs.FlagLaws.{prior-none, prior-some}
use Rattle.activations.proofs.flags.put_prior.Goals as goal

pub returns-then-k-eq0 : goal.returns-then-k-eq0
returns-then-k-eq0 c = prior-none _ _ _ _ c.if-k-eq0.true

pub returns : goal.returns
returns c = prior-some _ _ _ _ _ _ (omega (arith, c.if-k-eq0.false)) (c.put_bytes-c.ensures _) c.put_variable.ensures
