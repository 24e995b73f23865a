use Rattle.activations.proofs.Counting.{left_none, left_one}
use Rattle.activations.specs.ChecksAt.{assign_t, over_equation}
use Rattle.activations.proofs.PlaceLaws.{each-end, each_more}
use Rattle.activations.proofs.CheckLaws.{equation-ended, scope-over}
use Rattle.activations.proofs.checks.assign_scope.Goals as goal

pub loop-preserved : goal.loop-preserved
loop-preserved c = λ ns e. each_more (assign_t _ _) (over_equation ns _) _ _ _ _ _ _ (left_one c.loop-test.true) (equation-ended ns _ _ _ (c.after_equation-p.ensures ns e)) c.assign.ensures (c.loop.invariant ns e)

pub returns : goal.returns
returns c = λ ns e. scope-over ns _ _ _ _ _ _ c.number-c.ensures (each-end (assign_t _ _) (over_equation ns _) _ _ _ _ (left_none c.loop-test.false) (c.loop.invariant ns e))
