use Rattle.machines.proofs.AddedLaws.{equations-are}
use Rattle.machines.proofs.added.equation_count.Goals as goal

pub returns : goal.returns
returns c = (c.made_count.ensures.0, λ ns e. equations-are ns _ _ _ _ _ _ _ c.number-m.ensures (c.to_outputs-a.ensures ns e) c.number-o.ensures c.made_count.ensures.1)
