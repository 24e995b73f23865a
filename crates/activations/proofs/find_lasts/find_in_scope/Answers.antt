use Rattle.activations.proofs.Counting.{left_none, left_one}
use Rattle.activations.specs.Places.{equation_end}
use Rattle.activations.specs.LastsAt.{find_in_equation_t}
use Rattle.activations.proofs.PlaceLaws.{each_more, equation-over}
use Rattle.activations.proofs.LastLaws.{equation-sought, scope-sought}
use Rattle.activations.proofs.find_lasts.find_in_scope.Goals as goal

pub loop-preserved : goal.loop-preserved
loop-preserved c = (c.find_lasts-c.ensures.few, λ ns e. each_more (find_in_equation_t ns _ _) (equation_end ns _) _ _ _ _ _ _ (left_one c.loop-test.true) (equation-over ns _ _ _ _ (c.right_side-e.ensures ns e) (c.after_expr-p.ensures ns e)) (equation-sought ns _ _ _ _ _ _ (c.right_side-e.ensures ns e) (c.find_lasts-c.ensures.rows ns e)) (c.loop.invariant.1 ns e))

pub returns : goal.returns
returns c = record { few = c.loop.invariant.0; rows = λ ns e. scope-sought ns _ _ _ _ _ _ _ _ c.number-f.ensures (left_none c.loop-test.false) (c.loop.invariant.1 ns e) }
