use native.Mathlib.Omega.{arith}
use Rattle.machines.proofs.AddedLaws.{total-done, total-more, total-start}
use Rattle.machines.proofs.owners.refused_count.Goals as goal

pub loop-i-init : goal.loop-i-init
loop-i-init c = (omega arith, total-start _ _)

pub overflow_add-c : goal.overflow_add-c
overflow_add-c c = omega (arith, c.loop-i-test.true, c.loop-i.invariant.0, c.refused-c.ensures.0, c.requires)

pub loop-i-preserved : goal.loop-i-preserved
loop-i-preserved c = (omega (arith, c.loop-i.invariant.0, c.refused-c.ensures.0), total-more _ _ _ _ _ _ c.loop-i-test.true c.refused-c.ensures.1 c.loop-i.invariant.1)

pub returns : goal.returns
returns c = total-done _ _ _ _ _ c.loop-i-test.false c.loop-i.invariant.1
