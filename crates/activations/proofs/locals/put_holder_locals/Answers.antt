use Rattle.activations.proofs.Counting.{left_none, left_one}
use native.Mathlib.Omega.{arith}
use Rattle.activations.proofs.LocalLaws.{holders-done, holders-more}
use Rattle.activations.proofs.locals.put_holder_locals.Goals as goal

pub loop-row-preserved : goal.loop-row-preserved
loop-row-preserved c = λ ns e. holders-more ns _ _ _ _ _ _ _ _ _ _ _ _ (left_one c.loop-row-test.true) (omega arith) (c.put_holder_local-q.ensures ns e) (c.loop-row.invariant ns e)

pub returns : goal.returns
returns c = λ ns e. holders-done ns _ _ _ _ _ _ _ _ _ _ _ (left_none c.loop-row-test.false) (c.loop-row.invariant ns e)
