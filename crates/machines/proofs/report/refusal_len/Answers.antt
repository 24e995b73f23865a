use native.Mathlib.Omega.{arith}
use mathlib.Core.Path.{sym, ap, ◌∙◌}
use lib.ListN.{length}
use Rattle.machines.proofs.OwnerLaws.{few-kept}
use Rattle.machines.proofs.ReportingLaws.{entry-fits, entry_of, no-entry, refused-entry}
use Rattle.machines.proofs.report.refusal_len.Goals as goal

pub returns-then-a-ne-ABSENT : goal.returns-then-a-ne-ABSENT
returns-then-a-ne-ABSENT c = (omega arith, λ ns e. sym (ap length (no-entry ns _ _ _ _ _ _ _ _ _ _ _ c.entry-a.ensures c.if-a-ne-ABSENT.true)))

pub returns : goal.returns
returns c = (entry-fits _ _ _ _ _ _ c.args.tables.now.drawing.pack.short (few-kept _ _ _ c.refusal_of-j.auto.qualified c.requires.few_letters) c.entry_len.ensures, λ ns e. c.entry_len.ensures ∙ ap length (entry_of ns _ _ _ _ _ _ _ _ _ _ _ _ _ _ c.entry-at.ensures c.number-m.ensures (c.refusal_of-j.ensures.value ns e) c.judged_row.ensures (c.refusal_of-j.ensures.qualified_after ns e) ∙ refused-entry ns _ _ _ _ _ _ _ _ _ _ _ c.entry-a.ensures c.if-a-ne-ABSENT.false))
