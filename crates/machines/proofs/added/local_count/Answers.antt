use Rattle.machines.proofs.AddedLaws.{locals_are}
use Rattle.machines.proofs.added.local_count.Goals as goal

pub returns : goal.returns
returns c = (c.made_count.ensures.0, λ ns e. locals_are ns _ _ _ _ _ _ (c.to_locals-a.ensures ns e) c.number-l.ensures c.made_count.ensures.1)
