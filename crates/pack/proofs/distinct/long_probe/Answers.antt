use Rattle.pack.proofs.DistinctLaws.{long-hash, long-keyed}
use Rattle.pack.proofs.distinct.long_probe.Goals as goal

pub returns-then-key-eq0 : goal.returns-then-key-eq0
returns-then-key-eq0 c = long-hash _ _ _ c.if-key-eq0.true c.hash-h.ensures

pub returns : goal.returns
returns c = long-keyed _ _ _ _ _ c.if-key-eq0.false c.hash-h.ensures c.product.ensures c.folded.ensures
