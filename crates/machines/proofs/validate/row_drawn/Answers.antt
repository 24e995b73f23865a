use mathlib.Core.Path.{refl, ◌∙◌}
use borrow.Author.Tests.{ne_eqb}
use Rattle.machines.proofs.RecalledRows.{row-drawn-is, row-drawn-not}
use Rattle.machines.proofs.validate.row_drawn.Goals as goal

pub returns-then-entry-at : goal.returns-then-entry-at
returns-then-entry-at c = λ ns e. row-drawn-is ns _ _ _ _ _ _ _ _ c.entry.ensures c.if-entry-at.true (c.moves_of.ensures ns e) c.layout_word.ensures refl

pub returns-else-entry-at : goal.returns-else-entry-at
returns-else-entry-at c = λ ns e. ne_eqb _ _ c.if-entry-at.false ∙ row-drawn-not ns _ _ _ _ _ c.entry.ensures c.if-entry-at.false
