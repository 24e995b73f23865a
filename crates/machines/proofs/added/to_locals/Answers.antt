use Rattle.machines.proofs.AddedLaws.{locals-is}
use Rattle.machines.proofs.added.to_locals.Goals as goal

pub returns : goal.returns
returns c = λ ns e. locals-is ns _ _ _ _ _ c.number-m.ensures (c.to_outputs-o.ensures ns e) (c.after_ports.ensures ns e)
