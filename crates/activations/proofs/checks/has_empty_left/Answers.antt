use Rattle.activations.proofs.Counting.{left_none, left_one}
use Rattle.activations.specs.Places.{body_in, branch_end}
use Rattle.activations.specs.ChecksAt.{scope_has_empty_left_t}
use Rattle.activations.proofs.BadLastLaws.{any-end, any-hit, any-on}
use Rattle.activations.proofs.CheckLaws.{leftless-hit, leftless-in, leftless-rest}
use Rattle.activations.proofs.checks.has_empty_left.Goals as goal

pub returns-then-scope_has_empty_left : goal.returns-then-scope_has_empty_left
returns-then-scope_has_empty_left c = λ ns e. leftless-hit ns _ _ _ c.number-c.ensures (any-hit (λ q. scope_has_empty_left_t ns _ (body_in ns _ q)) (branch_end ns _) _ _ _ _ (left_one c.loop-test.true) (leftless-in ns _ _ _ _ (c.branch_equations-e.ensures ns e) (c.scope_has_empty_left.ensures ns e)) c.if-scope_has_empty_left.true (c.loop.invariant ns e))

pub loop-preserved : goal.loop-preserved
loop-preserved c = λ ns e. any-on (λ q. scope_has_empty_left_t ns _ (body_in ns _ q)) (branch_end ns _) _ _ _ _ _ (left_one c.loop-test.true) (leftless-in ns _ _ _ _ (c.branch_equations-e.ensures ns e) (c.scope_has_empty_left.ensures ns e)) c.if-scope_has_empty_left.false (c.after_branch-p.ensures ns e) (c.loop.invariant ns e)

pub returns : goal.returns
returns c = λ ns e. leftless-rest ns _ _ _ _ c.number-c.ensures (any-end (λ q. scope_has_empty_left_t ns _ (body_in ns _ q)) (branch_end ns _) _ _ _ (left_none c.loop-test.false) (c.loop.invariant ns e)) (c.scope_has_empty_left-2.ensures ns e)
