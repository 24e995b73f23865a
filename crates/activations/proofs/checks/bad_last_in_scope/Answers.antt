use Rattle.activations.proofs.Counting.{left_none, left_one}
use Rattle.activations.specs.Places.{equation_end}
use Rattle.activations.specs.BadLastsAt.{equation_has_bad_last_t}
use Rattle.activations.proofs.BadLastLaws.{any-end, any-hit, any-on, equation-is, scope-is}
use Rattle.activations.proofs.PlaceLaws.{equation-over}
use Rattle.activations.proofs.checks.bad_last_in_scope.Goals as goal

pub returns-then-has_bad_last : goal.returns-then-has_bad_last
returns-then-has_bad_last c = λ ns e. scope-is ns _ _ _ _ _ c.number-c.ensures (any-hit (equation_has_bad_last_t ns _ _) (equation_end ns _) _ _ _ _ (left_one c.loop-test.true) (equation-is ns _ _ _ _ _ (c.right_side-e.ensures ns e) (c.has_bad_last.ensures ns e)) c.if-has_bad_last.true (c.loop.invariant ns e))

pub loop-preserved : goal.loop-preserved
loop-preserved c = λ ns e. any-on (equation_has_bad_last_t ns _ _) (equation_end ns _) _ _ _ _ _ (left_one c.loop-test.true) (equation-is ns _ _ _ _ _ (c.right_side-e.ensures ns e) (c.has_bad_last.ensures ns e)) c.if-has_bad_last.false (equation-over ns _ _ _ _ (c.right_side-e.ensures ns e) (c.after_expr-p.ensures ns e)) (c.loop.invariant ns e)

pub returns : goal.returns
returns c = λ ns e. scope-is ns _ _ _ _ _ c.number-c.ensures (any-end (equation_has_bad_last_t ns _ _) (equation_end ns _) _ _ _ (left_none c.loop-test.false) (c.loop.invariant ns e))
