use Rattle.activations.proofs.ScopeLaws.{new-end, new-more}
use Rattle.activations.proofs.scopes.put_new_samples.Goals as goal

pub loop-id-preserved : goal.loop-id-preserved
loop-id-preserved c = new-more _ _ _ _ _ _ _ _ c.args.ids.now _ _ _ _ _ c.loop-id-test.true c.from-x.ensures c.put_new_sample-v.ensures c.loop-id.invariant

pub returns : goal.returns
returns c = new-end _ _ _ _ _ _ _ _ c.args.ids.now _ _ _ c.loop-id-test.false c.loop-id.invariant
