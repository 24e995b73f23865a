use Rattle.machines.proofs.Remaining.{none_left, one_more}
use Rattle.machines.proofs.LocalLaws.{inner-more, inner-none}
use Rattle.machines.proofs.emit_region.put_inner_locals.Goals as goal

pub loop-id-preserved : goal.loop-id-preserved
loop-id-preserved c = inner-more _ _ _ _ _ _ _ _ _ (one_more c.loop-id-test.true) c.put_region_locals-a.ensures c.put_active_port-v.ensures c.loop-id.invariant

pub returns : goal.returns
returns c = inner-none _ _ _ _ _ _ (none_left c.loop-id-test.false) c.loop-id.invariant
