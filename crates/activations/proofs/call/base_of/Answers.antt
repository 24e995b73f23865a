use Rattle.activations.proofs.Answered.{base-is}
use Rattle.activations.proofs.call.base_of.Goals as goal

pub returns : goal.returns
returns c = base-is _ _ _ _ _ _ c.lookup.ensures c.some_made.ensures
