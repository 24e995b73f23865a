use Rattle.machines.proofs.RowLaws.{part-is}
use Rattle.machines.proofs.layout.part.Goals as goal

pub returns : goal.returns
returns c = part-is _ _ _ _ _ c.min-b.ensures c.capped-e.ensures
