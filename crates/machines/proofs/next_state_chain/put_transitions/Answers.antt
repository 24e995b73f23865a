use Rattle.machines.proofs.ChainLaws.{transitions-is}
use Rattle.machines.proofs.next_state_chain.put_transitions.Goals as goal

pub returns : goal.returns
returns c = λ ns e. transitions-is _ _ _ _ _ ns _ _ _ _ _ _ c.layout_word-at.ensures c.number-c.ensures (c.put_moves.ensures ns e)
