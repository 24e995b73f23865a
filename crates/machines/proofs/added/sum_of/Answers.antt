use native.Mathlib.Omega.{arith}
use Rattle.machines.specs.AddedAt.{regions_t}
use Rattle.machines.proofs.AddedLaws.{regions-is, total-done, total-more, total-start}
use Rattle.machines.proofs.added.sum_of.Goals as goal

pub loop-i-init : goal.loop-i-init
loop-i-init c = (omega arith, total-start (regions_t _) _)

pub overflow_add-c : goal.overflow_add-c
overflow_add-c c = omega (arith, c.loop-i.invariant.0, c.small-c.ensures.0, c.loop-i-test.true, c.requires)

pub loop-i-preserved : goal.loop-i-preserved
loop-i-preserved c = (omega (arith, c.loop-i.invariant.0, c.small-c.ensures.0), total-more (regions_t _) _ _ _ _ _ c.loop-i-test.true (regions-is _ _ _ _ c.entry.ensures c.small-c.ensures.1) c.loop-i.invariant.1)

pub returns : goal.returns
returns c = (omega (arith, c.loop-i.auto.i-end, c.loop-i.invariant.0), total-done (regions_t _) _ _ _ _ c.loop-i-test.false c.loop-i.invariant.1)
