use Rattle.pack.proofs.SiphashLaws.{mixed-is}
use Rattle.pack.proofs.siphash.mix.Goals as goal

pub returns : goal.returns
returns c = mixed-is _ _ _ _ c.round-r.ensures
