use Rattle.std.proofs.Common.{arith}
use Rattle.pack.proofs.DistinctLaws.{tagged-keyed, tagged-plain}
use Rattle.pack.proofs.distinct.keep_tag.Goals as goal

pub overflow_cast-t : goal.overflow_cast-t
overflow_cast-t c = omega (arith, c.tag.ensures.1)

pub overflow_add-t : goal.overflow_add-t
overflow_add-t c = omega (arith, c.requires.1)

pub offset_bounds-t-i : goal.offset_bounds-t-i
offset_bounds-t-i c = omega (arith, c.requires.1)

pub bounds-t-i : goal.bounds-t-i
bounds-t-i c = omega (arith, c.requires.0, c.requires.1)

pub returns-then-key-eq0 : goal.returns-then-key-eq0
returns-then-key-eq0 c = tagged-plain _ _ _ _ _ c.if-key-eq0.true c.tag.ensures.0

pub returns-else-key-eq0 : goal.returns-else-key-eq0
returns-else-key-eq0 c = tagged-keyed _ _ _ _ c.if-key-eq0.false
