use Rattle.pack.proofs.TableLaws.{spare-is}
use Rattle.pack.proofs.table.spare.Goals as goal

pub returns : goal.returns
returns c = spare-is _ _ c.word.ensures.0
