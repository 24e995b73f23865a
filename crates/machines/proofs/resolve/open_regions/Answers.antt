use native.Mathlib.Omega.{arith}
use Rattle.machines.proofs.EmptyLaws.{opened_one, opened-more}
use Rattle.machines.proofs.resolve.open_regions.Goals as goal

pub returns-then-k-lt2 : goal.returns-then-k-lt2
returns-then-k-lt2 c = opened_one _ _ _ _ c.if-k-lt2.true c.region_head.ensures

pub overflow_add-result : goal.overflow_add-result
overflow_add-result c = omega (arith, c.requires.0, c.requires.1 (omega (arith, c.if-k-lt2.false)))

pub returns : goal.returns
returns c = opened-more _ _ _ c.if-k-lt2.false
