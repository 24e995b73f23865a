use Rattle.activations.proofs.Counting.{left_none, left_one}
use Rattle.activations.specs.Places.{branch_end}
use Rattle.activations.specs.BadLastsAt.{condition_has_bad_last_t}
use Rattle.activations.proofs.BadLastLaws.{any-end, any-hit, any-on, branches-is, condition-is}
use Rattle.activations.proofs.checks.bad_last_in_conditions.Goals as goal

pub returns-then-has_bad_last : goal.returns-then-has_bad_last
returns-then-has_bad_last c = λ ns e. branches-is ns _ _ _ _ _ c.first_branch-c.ensures (any-hit (condition_has_bad_last_t ns _ _) (branch_end ns _) _ _ _ _ (left_one c.loop-test.true) (condition-is ns _ _ _ _ _ c.number-i.ensures (c.has_bad_last.ensures ns e)) c.if-has_bad_last.true (c.loop.invariant ns e))

pub loop-preserved : goal.loop-preserved
loop-preserved c = λ ns e. any-on (condition_has_bad_last_t ns _ _) (branch_end ns _) _ _ _ _ _ (left_one c.loop-test.true) (condition-is ns _ _ _ _ _ c.number-i.ensures (c.has_bad_last.ensures ns e)) c.if-has_bad_last.false (c.after_branch-p.ensures ns e) (c.loop.invariant ns e)

pub returns : goal.returns
returns c = λ ns e. branches-is ns _ _ _ _ _ c.first_branch-c.ensures (any-end (condition_has_bad_last_t ns _ _) (branch_end ns _) _ _ _ (left_none c.loop-test.false) (c.loop.invariant ns e))
