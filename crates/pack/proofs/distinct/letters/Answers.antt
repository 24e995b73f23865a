use Rattle.pack.proofs.DistinctLaws.{letters-are, letters-few}
use Rattle.pack.proofs.distinct.letters.Goals as goal

pub returns-then-l-lt5 : goal.returns-then-l-lt5
returns-then-l-lt5 c = letters-few _ _ c.if-l-lt5.true c.read_u32_padded.ensures.0

pub returns : goal.returns
returns c = letters-are _ _ _ _ _ c.last.ensures c.read_u32_padded-2.ensures.0 c.last-2.ensures c.read_u32_padded-3.ensures.0
