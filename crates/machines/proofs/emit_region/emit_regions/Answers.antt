use Rattle.machines.proofs.Remaining.{none_left, one_more}
use Rattle.machines.proofs.RowLaws.{stays-full}
use Rattle.machines.proofs.RegionLaws.{regions-more, regions-none}
use Rattle.machines.proofs.emit_region.emit_regions.Goals as goal

pub returns-then-v : goal.returns-then-v
returns-then-v c = λ ns e. stays-full _ _ _ _ _ _ c.if-v.true (c.loop-i.invariant ns e)

pub loop-i-preserved : goal.loop-i-preserved
loop-i-preserved c = λ ns e. regions-more _ _ _ _ _ ns _ _ _ _ _ _ _ _ (one_more c.loop-i-test.true) c.entry-q.ensures (c.emit_region-v.ensures ns e) (c.loop-i.invariant ns e)

pub returns : goal.returns
returns c = λ ns e. regions-none _ _ _ _ _ ns _ _ _ _ _ (none_left c.loop-i-test.false) (c.loop-i.invariant ns e)
