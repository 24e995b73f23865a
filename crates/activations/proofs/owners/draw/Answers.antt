use mathlib.Core.Path.{◌∙◌}
use Rattle.activations.specs.Refusing.{numbers_of}
use Rattle.activations.proofs.OwnerLaws.{draw-is}
use Rattle.activations.proofs.owners.draw.Goals as goal

pub returns : goal.returns
unfolding numbers_of
returns c = draw-is _ _ _ _ _ _ _ _ _ _ _ _ _ c.number-a.ensures c.number-o.ensures (c.unwrap_or-k.ensures ∙ c.node_named.ensures) c.numbers.ensures c.put_spot.ensures c.put_judged.ensures
