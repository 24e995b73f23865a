use native.Mathlib.Omega.{arith}
use Rattle.machines.specs.AddedAt.{owned_t}
use Rattle.machines.proofs.AddedLaws.{total-done, total-more, total-start}
use Rattle.machines.proofs.added.owned_count.Goals as goal

pub loop-i-init : goal.loop-i-init
loop-i-init c = (omega arith, total-start (owned_t _ _) _)

pub overflow_add-c : goal.overflow_add-c
overflow_add-c c = omega (arith, c.loop-i.invariant.0, c.owned-c.ensures.0, c.loop-i-test.true, c.requires)

pub loop-i-preserved : goal.loop-i-preserved
loop-i-preserved c = (omega (arith, c.loop-i.invariant.0, c.owned-c.ensures.0), total-more (owned_t _ _) _ _ _ _ _ c.loop-i-test.true c.owned-c.ensures.1 c.loop-i.invariant.1)

pub returns : goal.returns
returns c = (omega (arith, c.loop-i.auto.i-end, c.loop-i.invariant.0), total-done (owned_t _ _) _ _ _ _ c.loop-i-test.false c.loop-i.invariant.1)
