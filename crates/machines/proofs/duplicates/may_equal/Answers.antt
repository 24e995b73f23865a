use Rattle.machines.proofs.FingerprintLaws.{both-may, first-not}
use Rattle.machines.proofs.duplicates.may_equal.Goals as goal

pub returns-then-half_may_equal : goal.returns-then-half_may_equal
returns-then-half_may_equal c = both-may _ _ _ _ c.half_may_equal.ensures c.if-half_may_equal.true c.half_may_equal-then-half_may_equal.ensures

pub returns : goal.returns
returns c = first-not _ _ _ c.half_may_equal.ensures c.if-half_may_equal.false
