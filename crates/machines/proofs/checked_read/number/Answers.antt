use Rattle.machines.proofs.CheckedReadLaws.{number_is}
use Rattle.machines.proofs.checked_read.number.Goals as goal

pub returns : goal.returns
returns c = number_is _ _ _ _ c.read_u16.ensures c.read_or_zero.ensures
