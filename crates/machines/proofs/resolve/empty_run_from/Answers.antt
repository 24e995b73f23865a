use native.Mathlib.Omega.{arith}
use Rattle.machines.proofs.Remaining.{ended}
use Rattle.machines.proofs.EmptyLaws.{seen_all, seen_more, seen_none}
use Rattle.machines.proofs.resolve.empty_run_from.Goals as goal

pub loop-count-init : goal.loop-count-init
loop-count-init c = seen_none _ _ _

pub loop-count-preserved : goal.loop-count-preserved
loop-count-preserved c = seen_more _ _ _ _ _ _ _ _ _ _ c.region-g.ensures c.is_empty.ensures c.if-not-is_empty.false c.len_at.ensures c.max-longest.ensures c.loop-count.invariant

pub returns-then-not-is_empty : goal.returns-then-not-is_empty
returns-then-not-is_empty c = seen_all _ _ _ _ _ _ _ c.loop-count.auto.count-end c.loop-count.invariant

pub returns : goal.returns
returns c = rw (ended c.loop-count-test.false c.loop-count.auto.count-end) (seen_all _ _ _ _ _ _ _ (omega arith) c.loop-count.invariant)
