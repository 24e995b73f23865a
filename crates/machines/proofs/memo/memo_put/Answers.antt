use Rattle.machines.proofs.MemoLaws.{mark-is}
use Rattle.machines.proofs.memo.memo_put.Goals as goal

pub returns : goal.returns
returns c = mark-is _ _ _ _ _ _ c.put_row.ensures
