use Rattle.std.proofs.Common.{arith, length-take}
use Rattle.pack.proofs.NameLaws.{bytes-ends}
use Rattle.pack.proofs.names.both_ends.Goals as goal

pub slice_bounds-each_byte-end : goal.slice_bounds-each_byte-end
slice_bounds-each_byte-end c = omega (arith, length-take c.args.k c.args.n.now, c.requires.0)

pub returns : goal.returns
returns c = bytes-ends c.args.n.now _ c.args.k _ _ c.each_byte-first.ensures c.each_byte-last.ensures (omega (arith, c.requires))
