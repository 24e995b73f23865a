use mathlib.Core.Path.{sym, ◌∙◌}
use Rattle.machines.proofs.Overwriting.{put_as, put-none, room_as}
use Rattle.machines.proofs.ReportingLaws.{entry_of, no-entry, refused-entry}
use Rattle.machines.proofs.report.put_refusal.Goals as goal

pub returns-then-a-ne-ABSENT : goal.returns-then-a-ne-ABSENT
returns-then-a-ne-ABSENT c = λ ns e. put-none _ _ _ (no-entry ns _ _ _ _ _ _ _ _ _ _ _ c.entry-a.ensures c.if-a-ne-ABSENT.true)

pub put_entry-requires : goal.put_entry-requires
put_entry-requires c = room_as _ _ _ _ c.requires.fits (sym (entry_of c.requires.ns _ _ _ _ _ _ _ _ _ _ _ _ _ _ c.entry-p.ensures c.number-m.ensures (c.refusal_of-j.ensures.value c.requires.ns c.requires.count) c.judged_row.ensures (c.refusal_of-j.ensures.qualified_after c.requires.ns c.requires.count) ∙ refused-entry c.requires.ns _ _ _ _ _ _ _ _ _ _ _ c.entry-a.ensures c.if-a-ne-ABSENT.false))

pub returns : goal.returns
returns c = λ ns e. put_as _ _ _ _ _ _ (c.put_entry.ensures.value, c.put_entry.ensures.report_after) (sym (entry_of ns _ _ _ _ _ _ _ _ _ _ _ _ _ _ c.entry-p.ensures c.number-m.ensures (c.refusal_of-j.ensures.value ns e) c.judged_row.ensures (c.refusal_of-j.ensures.qualified_after ns e) ∙ refused-entry ns _ _ _ _ _ _ _ _ _ _ _ c.entry-a.ensures c.if-a-ne-ABSENT.false))
