use native.Mathlib.Omega.{arith}
use mathlib.Core.Path.{refl, ◌∙◌}
use Rattle.machines.proofs.ReportingLaws.{count-more, over_last, over-next, report-whole}
use Rattle.activations.proofs.ReportLaws.{room-left, room-now}
use Rattle.activations.proofs.report.put_report.Goals as goal

pub put_refusal-e-requires : goal.put_refusal-e-requires
put_refusal-e-requires c = room-now _ _ _ _ _ _ (c.loop-i.auto.report ∙ c.put_count.auto.report) c.requires c.loop-i.invariant.0 c.loop-i-test.true

pub loop-i-preserved : goal.loop-i-preserved
loop-i-preserved c = (count-more _ _ _ _ _ _ _ c.loop-i-test.true refl c.put_refusal-e.ensures.0 c.loop-i.invariant.0, over-next _ _ _ _ _ _ _ _ _ c.loop-i-test.true (room-left _ _ _ _ _ _ (c.loop-i.auto.report ∙ c.put_count.auto.report) c.requires c.loop-i.invariant.0) refl c.put_refusal-e.ensures.0 c.put_refusal-e.ensures.1 c.loop-i.invariant.1)

pub returns : goal.returns
returns c = report-whole _ _ _ _ _ (omega arith) c.put_count.ensures (over_last _ _ _ _ _ _ c.loop-i-test.false c.loop-i.invariant.1)
