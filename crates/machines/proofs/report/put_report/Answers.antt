use native.Mathlib.Omega.{arith}
use mathlib.Core.Path.{◌∙◌}
use Rattle.machines.specs.ReportAt.{of_refused}
use Rattle.machines.proofs.EmitMachineLaws.{long_kept}
use Rattle.machines.proofs.ReportingLaws.{count-more, entered, over_last, over-next, report-whole, room-now, within-now}
use Rattle.machines.proofs.report.put_report.Goals as goal

pub put_refusal-e-requires : goal.put_refusal-e-requires
put_refusal-e-requires c = room-now _ _ _ _ _ _ _ _ _ c.requires.1 _ _ _ (c.loop-i.auto.report ∙ c.put_count.auto.report) (λ ns q es h. (c.loop-i.invariant ns q es h).0) _ _ _ (long_kept _ _ _ _ _ _ c.loop-i.auto.layout c.loop-i.auto.rows c.loop-i.auto.qualified c.requires.0) c.loop-i-test.true

pub loop-i-preserved : goal.loop-i-preserved
loop-i-preserved c = λ ns q es h. (count-more (of_refused _ es) _ _ _ _ _ _ c.loop-i-test.true (entered ns _ _ _ _ _ _ _ _ _ _ es (h _ c.loop-i-test.true) (long_kept _ _ _ _ _ _ c.loop-i.auto.layout c.loop-i.auto.rows c.loop-i.auto.qualified c.requires.0)) (c.put_refusal-e.ensures ns q).0 (c.loop-i.invariant ns q es h).0, over-next (of_refused _ es) _ _ _ _ _ _ _ _ c.loop-i-test.true (within-now _ _ _ _ _ _ _ _ _ c.requires.1 _ _ _ (c.loop-i.auto.report ∙ c.put_count.auto.report) (λ ns q es h. (c.loop-i.invariant ns q es h).0)) (entered ns _ _ _ _ _ _ _ _ _ _ es (h _ c.loop-i-test.true) (long_kept _ _ _ _ _ _ c.loop-i.auto.layout c.loop-i.auto.rows c.loop-i.auto.qualified c.requires.0)) (c.put_refusal-e.ensures ns q).0 (c.put_refusal-e.ensures ns q).1 (c.loop-i.invariant ns q es h).1)

pub returns : goal.returns
returns c = λ ns q es h. report-whole _ _ _ _ _ (omega arith) c.put_count.ensures (over_last (of_refused _ es) _ _ _ _ _ c.loop-i-test.false (c.loop-i.invariant ns q es h).1)
