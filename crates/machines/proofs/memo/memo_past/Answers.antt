use Rattle.machines.proofs.MemoLaws.{past_is}
use Rattle.machines.proofs.memo.memo_past.Goals as goal

pub returns : goal.returns
returns c = past_is _ _ _ _ c.state_row-b.ensures.value c.cell.ensures
