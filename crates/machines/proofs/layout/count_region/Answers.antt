use Rattle.machines.proofs.LayoutLaws.{tally-more, tally-same}
use Rattle.machines.proofs.layout.count_region.Goals as goal

pub returns-then-w-v : goal.returns-then-w-v
returns-then-w-v c = tally-same _ _ _ c.if-w-v.true

pub returns : goal.returns
returns c = tally-more _ _ _ _ c.if-w-v.false c.saturating_add.ensures
