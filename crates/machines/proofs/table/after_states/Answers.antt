use Rattle.machines.proofs.TableLaws.{states-end}
use Rattle.machines.proofs.table.after_states.Goals as goal

pub returns : goal.returns
returns c = λ ns e. states-end ns _ _ _ _ c.number-i.ensures (c.past_states.ensures ns e)
