use Rattle.machines.proofs.MemoLaws.{state-put-is}
use Rattle.machines.proofs.memo.memo_put_state.Goals as goal

pub returns : goal.returns
returns c = state-put-is _ _ _ _ _ _ _ _ _ _ _ _ c.requires.0 c.requires.1 c.requires.2 c.requires.3 c.requires.4 c.state_row-b.ensures.value c.put_cell.ensures c.put_cell-2.ensures c.put_cell-3.ensures c.put_cell-4.ensures c.put_cell-5.ensures
