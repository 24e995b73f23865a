use Rattle.machines.proofs.MemoLaws.{kept-far, kept-is, kept-not}
use Rattle.machines.proofs.memo.memo_at.Goals as goal

pub returns-then-p-ge-WORD_RANGE : goal.returns-then-p-ge-WORD_RANGE
returns-then-p-ge-WORD_RANGE c = kept-far _ _ _ c.if-p-ge-WORD_RANGE.true

pub returns-then-cell-p : goal.returns-then-cell-p
returns-then-cell-p c = kept-is _ _ _ _ _ c.if-p-ge-WORD_RANGE.false c.cell.ensures c.if-cell-p.true c.cell-then-cell-p.ensures

pub returns : goal.returns
returns c = kept-not _ _ _ _ c.if-p-ge-WORD_RANGE.false c.cell.ensures c.if-cell-p.false
