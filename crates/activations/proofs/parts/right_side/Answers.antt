use Rattle.activations.proofs.PlaceLaws.{right_is}
use Rattle.activations.proofs.parts.right_side.Goals as goal

pub returns : goal.returns
returns c = λ ns e. right_is ns _ _ _ _ (c.skip_index_list.ensures ns e) c.reached.ensures
