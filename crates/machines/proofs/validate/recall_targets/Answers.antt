use native.Mathlib.Omega.{arith}
use mathlib.Core.Path.{sym, ◌∙◌}
use Rattle.machines.proofs.MemoSoundLaws.{strays-kept}
use Rattle.machines.proofs.RecalledRows.{all-foreseen, none-foreseen}
use Rattle.machines.proofs.validate.recall_targets.Goals as goal

pub returns-then-f-lt5 : goal.returns-then-f-lt5
returns-then-f-lt5 c = λ ns e. none-foreseen ns _ _ _ _ _

pub returns-then-x-eq0 : goal.returns-then-x-eq0
returns-then-x-eq0 c = λ ns e. none-foreseen ns _ _ _ _ _

pub returns-then-rows_drawn : goal.returns-then-rows_drawn
returns-then-rows_drawn c = λ ns e. all-foreseen ns _ _ _ _ _ _ _ _ c.layout_word-n.ensures c.first-p.ensures (strays-kept _ _ _ _ _ _ _ _ c.args.drawing.now.sound c.if-f-lt5.false c.memo_at-x.ensures (omega (arith, c.if-x-eq0.false)) c.memo_beside.ensures c.number-c.ensures c.if-c-n.true ns e) (sym c.if-rows_drawn.true ∙ c.rows_drawn.ensures ns e)

pub returns : goal.returns
returns c = λ ns e. none-foreseen ns _ _ _ _ _
