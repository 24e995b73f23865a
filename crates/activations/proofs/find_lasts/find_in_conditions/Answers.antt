use Rattle.activations.proofs.Counting.{left_none, left_one}
use Rattle.activations.specs.Places.{branch_end}
use Rattle.activations.specs.LastsAt.{find_in_condition_t}
use Rattle.activations.proofs.PlaceLaws.{each_more}
use Rattle.activations.proofs.LastLaws.{branches-done, condition-sought}
use Rattle.activations.proofs.find_lasts.find_in_conditions.Goals as goal

pub loop-preserved : goal.loop-preserved
loop-preserved c = (c.find_lasts-c.ensures.few, λ ns e. each_more (find_in_condition_t ns _ _) (branch_end ns _) _ _ _ _ _ _ (left_one c.loop-test.true) (c.after_branch-p.ensures ns e) (condition-sought ns _ _ _ _ _ _ c.number-i.ensures (c.find_lasts-c.ensures.rows ns e)) (c.loop.invariant.1 ns e))

pub returns : goal.returns
returns c = record { few = c.loop.invariant.0; rows = λ ns e. branches-done ns _ (find_in_condition_t ns _ _) _ _ _ _ _ _ c.first_branch-f.ensures (left_none c.loop-test.false) (c.loop.invariant.1 ns e) }
