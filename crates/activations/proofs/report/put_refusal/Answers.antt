use mathlib.Core.Path.{sym}
use Rattle.machines.proofs.Overwriting.{put_as, put-none, room_as}
use Rattle.activations.proofs.ReportLaws.{entry-none, entry-some}
use Rattle.activations.proofs.report.put_refusal.Goals as goal

pub returns-then-r-eq0 : goal.returns-then-r-eq0
returns-then-r-eq0 c = put-none _ _ _ (entry-none _ _ _ c.judged-r.ensures _ _ _ c.if-r-eq0.true)

pub put_entry-requires : goal.put_entry-requires
put_entry-requires c = room_as _ _ _ _ c.requires (sym (entry-some _ _ _ c.judged-r.ensures _ _ _ _ _ _ c.if-r-eq0.false c.act_spot-p.ensures c.number-a.ensures c.judged_of-j.ensures))

pub returns : goal.returns
returns c = put_as _ _ _ _ _ _ (c.put_entry.ensures.value, c.put_entry.ensures.report_after) (sym (entry-some _ _ _ c.judged-r.ensures _ _ _ _ _ _ c.if-r-eq0.false c.act_spot-p.ensures c.number-a.ensures c.judged_of-j.ensures))
