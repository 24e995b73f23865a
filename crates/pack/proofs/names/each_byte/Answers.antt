use Rattle.std.proofs.Common.{◌∙◌, ap}
use Rattle.pack_rules.specs.Read.{name_byte}
use Rattle.pack.proofs.NameLaws.{bytes-done, bytes-more}
use Rattle.pack.proofs.names.each_byte.Goals as goal

pub loop-b-preserved : goal.loop-b-preserved
loop-b-preserved c = bytes-more c.args.n.now _ c.loop-b.all _ c.loop-b-test.true (c.name_byte-all.ensures ∙ ap name_byte c.from.ensures) c.loop-b.invariant

pub returns : goal.returns
returns c = bytes-done c.args.n.now _ c.loop-b.all c.loop-b-test.false c.loop-b.invariant
