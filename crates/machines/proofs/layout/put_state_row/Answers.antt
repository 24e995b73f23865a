use Rattle.machines.proofs.LayoutLaws.{state-words}
use Rattle.machines.proofs.layout.put_state_row.Goals as goal

pub returns : goal.returns
returns c = state-words _ _ _ _ _ _ _ _ _ _ c.put.ensures c.put_word.ensures c.put_word-2.ensures c.put_word-3.ensures
