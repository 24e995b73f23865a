use Rattle.machines.proofs.LayoutLaws.{machine-lay}
use Rattle.machines.proofs.layout.layout_machine.Goals as goal

pub returns : goal.returns
returns c = λ ns e. machine-lay ns _ _ _ _ _ _ _ _ _ c.machine_head-h.ensures (c.layout_region.ensures ns e)
