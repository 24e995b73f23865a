use Rattle.pack.proofs.DistinctLaws.{way_long, way-short}
use Rattle.pack.proofs.distinct.probe.Goals as goal

pub returns-then-key-n : goal.returns-then-key-n
returns-then-key-n c = way_long _ _ _ c.if-key-n.true c.long_probe.ensures

pub returns : goal.returns
returns c = way-short _ _ _ _ _ _ c.if-key-n.false c.key_for.ensures c.letters.ensures c.product.ensures c.folded.ensures
