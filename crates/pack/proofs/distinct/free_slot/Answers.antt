use Rattle.std.proofs.Common.{◌∙◌}
use Rattle.pack.proofs.DistinctLaws.{free-on-way}
use Rattle.pack.proofs.distinct.free_slot.Goals as goal

pub free_from-requires : goal.free_from-requires
free_from-requires c = c.first-i.ensures.1

pub returns : goal.returns
returns c = c.free_from.ensures ∙ free-on-way _ _ _ _ _ _ _ c.tag-g.ensures.0 c.first-i.ensures.0
