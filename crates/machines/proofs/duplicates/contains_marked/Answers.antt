use Rattle.machines.proofs.FingerprintLaws.{unmarked-either}
use Rattle.machines.proofs.duplicates.contains_marked.Goals as goal

pub returns : goal.returns
returns c = unmarked-either _ _ _ _ _ _ _ c.requires c.may_equal.ensures c.if-may_equal.false
