use native.Mathlib.Omega.{arith}
use Rattle.machines.proofs.EmptyLaws.{taken-one, taken_more}
use Rattle.machines.proofs.resolve.take_regions.Goals as goal

pub returns-then-k-lt2 : goal.returns-then-k-lt2
returns-then-k-lt2 c = taken-one _ _ _ _ _ _ _ c.if-k-lt2.true c.region-g.ensures c.len_at.ensures

pub overflow_add-result : goal.overflow_add-result
overflow_add-result c = omega (arith, c.requires.0, c.requires.1 (omega (arith, c.if-k-lt2.false)))

pub returns : goal.returns
returns c = taken_more _ _ _ _ _ _ c.if-k-lt2.false c.memo_beside.ensures
