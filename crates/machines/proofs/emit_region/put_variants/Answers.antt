use Rattle.machines.proofs.Remaining.{none_left, one_more}
use Rattle.machines.proofs.RowLaws.{stays-full}
use Rattle.machines.proofs.EnumLaws.{variants-more, variants-none}
use Rattle.machines.proofs.emit_region.put_variants.Goals as goal

pub returns-then-v : goal.returns-then-v
returns-then-v c = stays-full _ _ _ _ _ _ c.if-v.true c.loop.invariant

pub loop-preserved : goal.loop-preserved
loop-preserved c = variants-more _ _ _ _ _ _ _ _ _ _ (one_more c.loop-test.true) c.put_state_name-v.ensures c.layout_word-p.ensures c.loop.invariant

pub returns : goal.returns
returns c = variants-none _ _ _ _ _ _ _ (none_left c.loop-test.false) c.loop.invariant
