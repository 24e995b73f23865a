use Rattle.activations.proofs.Counting.{left_none, left_one}
use mathlib.Core.Path.{refl}
use Rattle.activations.specs.ChecksAt.{nameless_t, over_equation}
use Rattle.activations.proofs.BadLastLaws.{any-end, any-hit, any-on}
use Rattle.activations.proofs.CheckLaws.{equation-ended, leftless-over, nameless-no, nameless-yes}
use Rattle.activations.proofs.checks.scope_has_empty_left.Goals as goal

pub returns-then-l-eq0 : goal.returns-then-l-eq0
returns-then-l-eq0 c = λ ns e. leftless-over ns _ _ _ _ c.number-c.ensures (any-hit (nameless_t ns _) (over_equation ns _) _ _ _ _ (left_one c.loop-test.true) (nameless-yes ns _ _ _ c.number-l.ensures c.if-l-eq0.true) refl (c.loop.invariant ns e))

pub loop-preserved : goal.loop-preserved
loop-preserved c = λ ns e. any-on (nameless_t ns _) (over_equation ns _) _ _ _ _ _ (left_one c.loop-test.true) (nameless-no ns _ _ _ c.number-l.ensures c.if-l-eq0.false) refl (equation-ended ns _ _ _ (c.after_equation-p.ensures ns e)) (c.loop.invariant ns e)

pub returns : goal.returns
returns c = λ ns e. leftless-over ns _ _ _ _ c.number-c.ensures (any-end (nameless_t ns _) (over_equation ns _) _ _ _ (left_none c.loop-test.false) (c.loop.invariant ns e))
