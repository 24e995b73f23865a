use native.Mathlib.Omega.{arith}
use Rattle.machines.proofs.EmptyLaws.{one-at-once}
use Rattle.machines.proofs.resolve.run_length.Goals as goal

pub returns-then-k-lt2 : goal.returns-then-k-lt2
returns-then-k-lt2 c = one-at-once _ _ _ c.requires

pub returns-then-n-k : goal.returns-then-n-k
returns-then-n-k c = one-at-once _ _ _ c.requires

pub returns-then-k-ge-WORD_RANGE : goal.returns-then-k-ge-WORD_RANGE
returns-then-k-ge-WORD_RANGE c = one-at-once _ _ _ c.requires

pub returns : goal.returns
returns c = record { some = omega (arith, c.if-k-lt2.false); few = c.if-n-k.false; small = c.if-k-ge-WORD_RANGE.false; kept = λ l. c.memo_at-k.ensures }
