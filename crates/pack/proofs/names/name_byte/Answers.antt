use Rattle.pack.proofs.NameLaws.{name-told}
use Rattle.pack.proofs.names.name_byte.Goals as goal

pub returns : goal.returns
returns c = name-told _ _ _ _ c.within-digit.ensures c.within-upper.ensures c.within-lower.ensures
