use Rattle.activations.proofs.Counting.{left_none, left_one}
use Rattle.activations.specs.TypesAt.{enum_end}
use Rattle.activations.specs.FirstVariantsAt.{first_t}
use Rattle.activations.proofs.PlaceLaws.{each_more}
use Rattle.activations.proofs.TypeLaws.{enum-over}
use Rattle.activations.proofs.FirstVariantLaws.{firsts-done}
use Rattle.activations.proofs.types.keep_firsts.Goals as goal

pub loop-preserved : goal.loop-preserved
loop-preserved c = λ ns e. each_more (first_t _) (enum_end ns _) _ _ _ _ _ _ (left_one c.loop-test.true) (enum-over ns _ _ _ _ c.number-i.ensures (c.right_side-p.ensures ns e)) c.keep_first.ensures (c.loop.invariant ns e)

pub returns : goal.returns
returns c = λ ns e. firsts-done ns _ _ _ _ _ _ _ c.number-c.ensures (left_none c.loop-test.false) (c.loop.invariant ns e)
