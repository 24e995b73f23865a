use Rattle.machines.proofs.CheckedReadLaws.{byte-is, region-is}
use Rattle.machines.proofs.checked_read.region.Goals as goal

pub returns : goal.returns
returns c = region-is _ _ _ _ _ c.number-i.ensures (byte-is _ _ _ _ c.read_byte.ensures c.read_or_zero-h.ensures) c.number.ensures
