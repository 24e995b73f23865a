use Rattle.pack.proofs.SiphashLaws.{joined_is}
use Rattle.pack.proofs.siphash.join.Goals as goal

pub returns : goal.returns
returns c = joined_is _ _ _ c.round.ensures c.round-r.ensures
