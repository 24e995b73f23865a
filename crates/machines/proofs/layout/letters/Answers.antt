use Rattle.machines.proofs.RowLaws.{letters-is}
use Rattle.machines.proofs.layout.letters.Goals as goal

pub returns : goal.returns
returns c = letters-is _ _ _ _ _ _ c.layout_word-a.ensures c.layout_word-n.ensures c.part.ensures
