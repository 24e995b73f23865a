use Rattle.machines.proofs.TableLaws.{len_is}
use Rattle.machines.proofs.table.name_len.Goals as goal

pub returns : goal.returns
returns c = len_is _ _ _ _ _ c.cell-at.ensures c.byte_at.ensures.0
