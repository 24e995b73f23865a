use Rattle.machines.proofs.EmitMachineLaws.{enums-put}
use Rattle.machines.proofs.emit_machine.put_machine_enums.Goals as goal

pub returns : goal.returns
returns c = λ ns e. enums-put ns _ _ _ _ _ _ _ _ _ _ _ _ _ c.number-m.ensures (c.to_initial-i.ensures ns e) (c.layout_machine-l.ensures ns e) _ _ _ _ c.pack_name-n.ensures c.put_enums.ensures
