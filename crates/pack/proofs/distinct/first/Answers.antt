use Rattle.std.proofs.Common.{arith}
use Rattle.pack.proofs.DistinctLaws.{first-keyed, first_plain}
use Rattle.pack.proofs.distinct.first.Goals as goal

pub returns-then-key-eq0 : goal.returns-then-key-eq0
returns-then-key-eq0 c = (first_plain _ _ c.if-key-eq0.true, omega arith)

pub returns : goal.returns
returns c = (first-keyed _ _ c.if-key-eq0.false, omega arith)
