use Rattle.activations.proofs.Counting.{left_none, left_one}
use Rattle.activations.specs.TypesAt.{enum_end, variant_at}
use Rattle.activations.proofs.PlaceLaws.{each_more}
use Rattle.activations.proofs.TypeLaws.{enum-over, variants-done}
use Rattle.activations.proofs.types.first_variant.Goals as goal

pub loop-preserved : goal.loop-preserved
loop-preserved c = λ ns e. each_more (variant_at _ _) (enum_end ns _) _ _ _ _ _ _ (left_one c.loop-test.true) (enum-over ns _ _ _ _ c.number-i.ensures (c.right_side-p.ensures ns e)) c.variant_at-r.ensures (c.loop.invariant ns e)

pub returns : goal.returns
returns c = λ ns e. variants-done ns _ _ _ _ _ _ _ c.number-c.ensures (left_none c.loop-test.false) (c.loop.invariant ns e)
