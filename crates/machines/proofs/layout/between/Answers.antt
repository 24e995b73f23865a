use Rattle.machines.proofs.RowLaws.{between_none}
use Rattle.machines.proofs.layout.between.Goals as goal

pub returns : goal.returns
returns c = between_none _ _ _ _ c.if-a-e.false c.part-2.ensures
