use Rattle.activations.proofs.Counting.{left_none, left_one}
use Rattle.activations.specs.Places.{branch_end}
use Rattle.activations.proofs.PlaceLaws.{along-end, along-more, branches-over}
use Rattle.activations.proofs.parts.after_branches.Goals as goal

pub loop-preserved : goal.loop-preserved
loop-preserved c = λ ns e. along-more (branch_end ns _) _ _ _ _ (left_one c.loop-test.true) (c.after_branch-p.ensures ns e) (c.loop.invariant ns e)

pub returns : goal.returns
returns c = λ ns e. branches-over ns _ _ _ _ c.number-c.ensures (along-end (branch_end ns _) _ _ _ (left_none c.loop-test.false) (c.loop.invariant ns e))
