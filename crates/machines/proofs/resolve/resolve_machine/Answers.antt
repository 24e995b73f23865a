use Rattle.machines.proofs.ResolveLaws.{machine-walk}
use Rattle.machines.proofs.resolve.resolve_machine.Goals as goal

pub returns : goal.returns
returns c = λ ns e. machine-walk ns _ _ _ _ _ _ _ _ c.machine-k.ensures c.start_stack.ensures (c.resolve_states.ensures ns e)
