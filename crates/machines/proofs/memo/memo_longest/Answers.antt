use Rattle.machines.proofs.MemoLaws.{longest-is}
use Rattle.machines.proofs.memo.memo_longest.Goals as goal

pub returns : goal.returns
returns c = longest-is _ _ _ _ c.state_row-b.ensures.value c.cell.ensures
