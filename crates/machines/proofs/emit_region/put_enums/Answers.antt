use Rattle.machines.proofs.Remaining.{none_left, one_more}
use Rattle.machines.proofs.RowLaws.{stays-full}
use Rattle.machines.proofs.EnumLaws.{enums-more, enums-none}
use Rattle.machines.proofs.emit_region.put_enums.Goals as goal

pub returns-then-v : goal.returns-then-v
returns-then-v c = stays-full _ _ _ _ _ _ c.if-v.true c.loop-i.invariant

pub loop-i-preserved : goal.loop-i-preserved
loop-i-preserved c = enums-more _ _ _ _ _ _ _ _ _ _ _ _ (one_more c.loop-i-test.true) c.entry-q.ensures c.put_enum-v.ensures c.loop-i.invariant

pub returns : goal.returns
returns c = enums-none _ _ _ _ _ _ _ _ _ (none_left c.loop-i-test.false) c.loop-i.invariant
