use Rattle.machines.proofs.MemoLaws.{regions-is, regions-not}
use Rattle.machines.proofs.memo.memo_regions.Goals as goal

pub returns-then-cell-p : goal.returns-then-cell-p
returns-then-cell-p c = regions-is _ _ _ _ _ c.state_row-b.ensures.value c.cell.ensures c.if-cell-p.true c.cell-then-cell-p.ensures

pub returns : goal.returns
returns c = regions-not _ _ _ _ c.state_row-b.ensures.value c.cell.ensures c.if-cell-p.false
