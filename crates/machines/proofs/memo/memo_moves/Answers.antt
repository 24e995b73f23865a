use Rattle.machines.proofs.MemoLaws.{moves-is}
use Rattle.machines.proofs.memo.memo_moves.Goals as goal

pub returns : goal.returns
returns c = moves-is _ _ _ _ c.state_row-b.ensures.value c.cell.ensures
