use native.Mathlib.Omega.{arith}
use Rattle.machines.proofs.CallLaws.{report-long, report-put}
use Rattle.activations.proofs.report.answer_report.Goals as goal

pub returns-then-report-b : goal.returns-then-report-b
returns-then-report-b c = record { by_index = λ o. report-long _ _ _ c.report_len-b.ensures.value o _ c.if-report-b.true; number_bound = (omega arith, omega (arith, c.report_len-b.ensures.upper_bound, c.requires.1)) }

pub returns : goal.returns
returns c = record { by_index = λ o. report-put _ _ _ c.report_len-b.ensures.value o _ _ c.if-report-b.false c.put_report.ensures; number_bound = (omega arith, omega (arith, c.report_len-b.ensures.upper_bound, c.requires.1)) }
