use Prim.Native.Nat.{◌+◌}
use native.Mathlib.Omega.{arith}
use mathlib.Core.Path.{ap}
use Rattle.machines.proofs.EmitMachineLaws.{long_kept}
use Rattle.machines.proofs.ReportingLaws.{count-done, count-more, entered}
use Rattle.machines.proofs.report.report_len.Goals as goal

pub loop-i-preserved : goal.loop-i-preserved
loop-i-preserved c = (omega (arith, c.loop-i.invariant.0, c.refusal_len-c.ensures.0), λ ns e es h. count-more _ _ _ _ _ _ _ c.loop-i-test.true (entered ns _ _ _ _ _ _ _ _ _ _ es (h _ c.loop-i-test.true) (long_kept _ _ _ _ _ _ c.loop-i.auto.layout c.loop-i.auto.rows c.loop-i.auto.qualified c.requires.0)) (ap (λ y. c.loop-i.c + y) (c.refusal_len-c.ensures.1 ns e)) (c.loop-i.invariant.1 ns e es h))

pub returns : goal.returns
returns c = λ ns e es h. count-done _ _ _ _ _ c.loop-i-test.false (c.loop-i.invariant.1 ns e es h)
