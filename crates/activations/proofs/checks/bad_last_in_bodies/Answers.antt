use Rattle.activations.proofs.Counting.{left_none, left_one}
use Rattle.activations.specs.Places.{branch_end}
use Rattle.activations.specs.BadLastsAt.{body_has_bad_last_t}
use Rattle.activations.proofs.BadLastLaws.{any-end, any-hit, any-on, body-misused, branches-is}
use Rattle.activations.proofs.checks.bad_last_in_bodies.Goals as goal

pub returns-then-bad_last_in_scope : goal.returns-then-bad_last_in_scope
returns-then-bad_last_in_scope c = λ ns e. branches-is ns _ _ _ _ _ c.first_branch-c.ensures (any-hit (body_has_bad_last_t ns _ _) (branch_end ns _) _ _ _ _ (left_one c.loop-test.true) (body-misused ns _ _ _ _ _ (c.branch_equations-e.ensures ns e) (c.bad_last_in_scope.ensures ns e)) c.if-bad_last_in_scope.true (c.loop.invariant ns e))

pub loop-preserved : goal.loop-preserved
loop-preserved c = λ ns e. any-on (body_has_bad_last_t ns _ _) (branch_end ns _) _ _ _ _ _ (left_one c.loop-test.true) (body-misused ns _ _ _ _ _ (c.branch_equations-e.ensures ns e) (c.bad_last_in_scope.ensures ns e)) c.if-bad_last_in_scope.false (c.after_branch-p.ensures ns e) (c.loop.invariant ns e)

pub returns : goal.returns
returns c = λ ns e. branches-is ns _ _ _ _ _ c.first_branch-c.ensures (any-end (body_has_bad_last_t ns _ _) (branch_end ns _) _ _ _ (left_none c.loop-test.false) (c.loop.invariant ns e))
