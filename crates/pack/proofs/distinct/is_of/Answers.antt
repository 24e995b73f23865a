use Rattle.std.proofs.Common.{arith}
use Rattle.pack.proofs.DistinctLaws.{may-be-of, not-of}
use Rattle.pack.proofs.distinct.is_of.Goals as goal

pub overflow_add-i : goal.overflow_add-i
overflow_add-i c = omega (arith, c.requires.0)

pub returns-then-key-cell : goal.returns-then-key-cell
returns-then-key-cell c = not-of _ _ _ _ _ _ _ _ c.cell.ensures c.if-key-cell.true

pub is_at-requires : goal.is_at-requires
is_at-requires c = c.requires.1

pub returns : goal.returns
returns c = may-be-of _ _ _ _ _ _ _ _ c.cell.ensures _ c.if-key-cell.false c.is_at.ensures
