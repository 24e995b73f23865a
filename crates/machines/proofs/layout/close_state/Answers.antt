use Rattle.machines.proofs.LayoutLaws.{close-state}
use Rattle.machines.proofs.layout.close_state.Goals as goal

pub returns : goal.returns
returns c = λ reg qualified. close-state _ _ reg qualified _ _ _ _ _ c.put_state_ends.ensures c.at_offset.ensures
