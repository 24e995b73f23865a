use Rattle.std.proofs.Common.{◌∙◌, arith}
use Rattle.pack.proofs.TableLaws.{noted-at}
use Rattle.pack.proofs.TableIndex.{texts-is}
use Rattle.pack.proofs.table.note.Goals as goal

pub returns : goal.returns
returns c = c.link_at.ensures ∙ noted-at _ _ _ _ c.slot_for-cell.ensures.0 (omega (arith, c.saturating_sub-p.ensures, texts-is))
