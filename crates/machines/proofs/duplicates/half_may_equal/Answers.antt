use mathlib.Core.Path.{sym}
use lib.Seq.{length-take-le}
use Rattle.machines.proofs.FingerprintLaws.{maybe-over, maybe-within}
use Rattle.machines.proofs.duplicates.half_may_equal.Goals as goal

pub returns-then-halves-k : goal.returns-then-halves-k
returns-then-halves-k c = maybe-over _ _ _ c.if-halves-k.true

pub slice_bounds-contains_half-end : goal.slice_bounds-contains_half-end
slice_bounds-contains_half-end c = sym (length-take-le _ _ c.if-halves-k.false)

pub returns : goal.returns
returns c = maybe-within _ _ _ _ c.if-halves-k.false c.contains_half.ensures
