use Rattle.std.proofs.Common.{◌∙◌}
use Rattle.pack.proofs.CheckLaws.{open-long, open-short, record-long, record-short}
use Rattle.pack.proofs.check.read_pack.Goals as goal

pub returns-then-s-gt-BYTES : goal.returns-then-s-gt-BYTES
returns-then-s-gt-BYTES c = record { verdict_value = open-long _ c.if-s-gt-BYTES.true; pack_value = c.empty.ensures ∙ record-long _ c.if-s-gt-BYTES.true }

pub returns : goal.returns
returns c = record { verdict_value = open-short _ _ c.if-s-gt-BYTES.false c.read_sections.ensures.verdict_value; pack_value = c.read_sections.ensures.pack_value ∙ record-short _ c.if-s-gt-BYTES.false }
