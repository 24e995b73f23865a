use Rattle.machines.proofs.CheckedReadLaws.{byte-is}
use Rattle.machines.proofs.LayoutLaws.{region-from}
use Rattle.machines.proofs.layout.region_head.Goals as goal

pub returns : goal.returns
returns c = region-from _ _ _ _ _ c.number-x.ensures (byte-is _ _ _ _ c.read_byte.ensures c.read_or_zero-y.ensures) c.number-n.ensures
