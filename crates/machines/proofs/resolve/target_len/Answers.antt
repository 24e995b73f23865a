use Rattle.machines.proofs.ResolveLaws.{target_is}
use Rattle.machines.proofs.resolve.target_len.Goals as goal

pub returns : goal.returns
returns c = λ ns e. target_is ns _ _ _ _ _ _ (c.guard_end.ensures ns e) c.number-i.ensures c.name_len.ensures
