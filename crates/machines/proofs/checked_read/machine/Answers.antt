use Rattle.machines.proofs.CheckedReadLaws.{machine-is}
use Rattle.machines.proofs.checked_read.machine.Goals as goal

pub returns : goal.returns
returns c = machine-is _ _ _ _ c.number-i.ensures c.number.ensures
