use Rattle.std.proofs.Common.{◌-◌, length, arith}
use Rattle.pack.proofs.NameLaws.{bytes-ends}
use Rattle.pack.proofs.names.by_blocks.Goals as goal

pub returns : goal.returns
returns c = bytes-ends c.args.n.now (length c.args.n.now - 16) _ _ _ c.each_byte-first.ensures c.each_byte-last.ensures (omega (arith, c.requires))
