use Rattle.machines.proofs.Remaining.{none_left, one_less, some_left}
use mathlib.Core.Path.{sym, ◌∙◌}
use Rattle.machines.proofs.RecalledRows.{rows-drawn-done, rows-drawn-stop, rows-drawn-went}
use Rattle.machines.proofs.validate.rows_drawn.Goals as goal

pub loop-preserved : goal.loop-preserved
loop-preserved c = λ ns e. rw one_less (rows-drawn-went ns _ _ _ _ _ _ _ _ (some_left c.loop-test.true) (sym c.if-not-row_drawn.false ∙ c.row_drawn.ensures ns e) c.layout_word-p.ensures (c.past_of-at.ensures ns e) (c.loop.invariant ns e))

pub returns-then-not-row_drawn : goal.returns-then-not-row_drawn
returns-then-not-row_drawn c = λ ns e. rows-drawn-stop ns _ _ _ _ _ _ (some_left c.loop-test.true) (sym c.if-not-row_drawn.true ∙ c.row_drawn.ensures ns e) (c.loop.invariant ns e)

pub returns : goal.returns
returns c = λ ns e. rows-drawn-done ns _ _ _ _ _ _ (none_left c.loop-test.false) (c.loop.invariant ns e)
