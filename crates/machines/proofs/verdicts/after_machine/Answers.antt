use Rattle.machines.proofs.OwnerLaws.{machine-end}
use Rattle.machines.proofs.verdicts.after_machine.Goals as goal

pub returns : goal.returns
returns c = λ ns e. machine-end ns _ _ _ _ _ c.number-m.ensures (c.to_initial-i.ensures ns e) (c.after_states.ensures ns e)
