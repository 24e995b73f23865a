use Rattle.machines.proofs.EmitMachineLaws.{equations-put}
use Rattle.machines.proofs.emit_machine.put_equations.Goals as goal

pub returns : goal.returns
returns c = λ ns e. equations-put ns _ _ _ _ _ _ _ _ _ _ _ _ _ c.number-m.ensures (c.to_initial-i.ensures ns e) (c.layout_machine-l.ensures ns e) _ _ _ _ _ (c.to_outputs-o.ensures ns e) (c.emit_regions-v.ensures ns e) (c.put_outputs.ensures ns e)
