use native.Mathlib.Omega.{arith}
use Rattle.machines.proofs.AddedLaws.{total-done, total-more}
use Rattle.activations.proofs.added.added_equations.Goals as goal

pub loop-i-preserved : goal.loop-i-preserved
loop-i-preserved c = (omega (arith, c.loop-i.invariant.0, c.adds_equations-c.ensures.0), total-more _ _ _ _ _ _ c.loop-i-test.true c.adds_equations-c.ensures.1 c.loop-i.invariant.1)

pub returns : goal.returns
returns c = (omega (arith, c.loop-i.invariant.0, c.requires), total-done _ _ _ _ _ c.loop-i-test.false c.loop-i.invariant.1)
