use native.Mathlib.Omega.{arith}
use Rattle.machines.proofs.AddedLaws.{large_is, small_is}
use Rattle.machines.proofs.added.small.Goals as goal

pub returns-then-k-lt-WORD_RANGE : goal.returns-then-k-lt-WORD_RANGE
returns-then-k-lt-WORD_RANGE c = (c.if-k-lt-WORD_RANGE.true, small_is _ c.if-k-lt-WORD_RANGE.true)

pub returns-else-k-lt-WORD_RANGE : goal.returns-else-k-lt-WORD_RANGE
returns-else-k-lt-WORD_RANGE c = (omega arith, large_is _ c.if-k-lt-WORD_RANGE.false)
