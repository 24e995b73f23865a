use Rattle.activations.proofs.Counting.{left_none, left_one}
use Rattle.activations.proofs.LocalLaws.{clocks-done, clocks-more}
use Rattle.activations.proofs.locals.put_guard_locals.Goals as goal

pub loop-k-preserved : goal.loop-k-preserved
loop-k-preserved c = λ ns e. clocks-more ns _ _ _ _ _ _ _ _ _ (left_one c.loop-k-test.true) (c.put_branch_local-q.ensures ns e) (c.loop-k.invariant ns e)

pub returns : goal.returns
returns c = λ ns e. clocks-done ns _ _ _ _ _ _ _ _ (left_none c.loop-k-test.false) (c.loop-k.invariant ns e)
