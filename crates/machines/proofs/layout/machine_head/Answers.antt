use Rattle.machines.proofs.LayoutLaws.{machine-as}
use Rattle.machines.proofs.layout.machine_head.Goals as goal

pub returns : goal.returns
returns c = machine-as _ _ _ _ _ c.number-x.ensures c.number-n.ensures
