use Rattle.pack.proofs.DistinctLaws.{telling-is}
use Rattle.pack.proofs.distinct.enabled.Goals as goal

pub returns : goal.returns
returns c = telling-is _ _ c.cell.ensures
