use native.Mathlib.Omega.{arith}
use mathlib.Core.Path.{sym, ap, ◌∙◌}
use lib.ListN.{length}
use Rattle.activations.proofs.OutcomeFits.{entry-fits}
use Rattle.activations.proofs.ReportLaws.{entry-none, entry-some}
use Rattle.activations.proofs.report.refusal_len.Goals as goal

pub returns-then-r-eq0 : goal.returns-then-r-eq0
returns-then-r-eq0 c = (omega arith, sym (ap length (entry-none _ _ _ c.judged-r.ensures _ _ _ c.if-r-eq0.true)))

pub returns : goal.returns
returns c = (entry-fits _ _ _ _ _ _ c.requires (omega arith) c.entry_len.ensures, c.entry_len.ensures ∙ ap length (entry-some _ _ _ c.judged-r.ensures _ _ _ _ _ _ c.if-r-eq0.false c.act_spot-at.ensures c.number-a.ensures c.judged_of-j.ensures))
