use Rattle.machines.proofs.CallLaws.{report-long, report-put}
use Rattle.machines.proofs.call.report_all.Goals as goal

pub returns-then-report-b : goal.returns-then-report-b
returns-then-report-b c = λ ns e es h o. report-long _ _ _ (c.report_len-b.ensures ns e es h) o _ c.if-report-b.true

pub returns : goal.returns
returns c = λ ns e es h o. report-put _ _ _ (c.report_len-b.ensures ns e es h) o _ _ c.if-report-b.false (c.put_report.ensures ns e es h)
