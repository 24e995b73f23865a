use Rattle.std.proofs.Common.{arith}
use Rattle.pack.proofs.DistinctLaws.{after-keyed, after-plain}
use Rattle.pack.proofs.distinct.after.Goals as goal

pub overflow_add-result : goal.overflow_add-result
overflow_add-result c = omega (arith, c.requires)

pub returns-then-key-eq0 : goal.returns-then-key-eq0
returns-then-key-eq0 c = (after-plain _ _ _ c.if-key-eq0.true, omega arith)

pub overflow_add-result-2 : goal.overflow_add-result-2
overflow_add-result-2 c = omega (arith, c.requires)

pub returns : goal.returns
returns c = (after-keyed _ _ _ c.if-key-eq0.false, omega arith)
