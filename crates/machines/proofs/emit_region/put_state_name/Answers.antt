use Rattle.machines.proofs.RowLaws.{name-as}
use Rattle.machines.proofs.emit_region.put_state_name.Goals as goal

pub returns : goal.returns
returns c = name-as _ _ _ _ _ c.put_name.ensures c.letters-n.ensures
