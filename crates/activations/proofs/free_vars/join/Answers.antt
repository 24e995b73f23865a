use Rattle.activations.proofs.ReadLaws.{join-end, join_more}
use Rattle.activations.proofs.free_vars.join.Goals as goal

pub loop-id-preserved : goal.loop-id-preserved
loop-id-preserved c = (c.push-m.ensures.0, join_more c.args.ids.now _ _ _ _ _ c.loop-id-test.true c.from.ensures c.push-m.ensures.1 c.loop-id.invariant.1)

pub returns : goal.returns
returns c = (c.loop-id.invariant.0, join-end c.args.ids.now _ _ _ c.loop-id-test.false c.loop-id.invariant.1)
