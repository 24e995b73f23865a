use Rattle.machines.proofs.LayoutLaws.{state-ends}
use Rattle.machines.proofs.layout.put_state_ends.Goals as goal

pub returns : goal.returns
returns c = state-ends _ _ _ _ _ _ c.put_word.ensures c.put_word-2.ensures
