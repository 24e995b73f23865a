use Rattle.machines.proofs.ResolveLaws.{len-at-is}
use Rattle.machines.proofs.resolve.len_at.Goals as goal

pub returns : goal.returns
returns c = len-at-is _ _ _ _ _ c.number-i.ensures c.name_len.ensures
