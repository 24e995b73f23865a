use Prim.Native.Nat.{◌+◌}
use native.Mathlib.Omega.{arith}
use mathlib.Core.Path.{refl, ap}
use Rattle.machines.proofs.ReportingLaws.{count-done, count-more}
use Rattle.activations.proofs.report.report_len.Goals as goal

pub loop-i-preserved : goal.loop-i-preserved
loop-i-preserved c = (omega (arith, c.loop-i.invariant.0, c.refusal_len-c.ensures.0), count-more _ _ _ _ _ _ _ c.loop-i-test.true refl (ap (λ y. c.loop-i.c + y) c.refusal_len-c.ensures.1) c.loop-i.invariant.1)

pub returns : goal.returns
returns c = record { value = count-done _ _ _ _ _ c.loop-i-test.false c.loop-i.invariant.1; upper_bound = omega (arith, c.loop-i.invariant.0) }
