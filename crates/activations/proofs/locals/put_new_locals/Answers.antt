use Rattle.activations.proofs.ScopeLocalLaws.{news-end, news-more}
use Rattle.activations.proofs.locals.put_new_locals.Goals as goal

pub loop-id-preserved : goal.loop-id-preserved
loop-id-preserved c = λ ns e. news-more ns _ _ _ _ _ _ _ _ _ _ c.args.ids.now _ _ _ _ _ c.loop-id-test.true c.from-x.ensures (c.put_new_local-q.ensures ns e) (c.loop-id.invariant ns e)

pub returns : goal.returns
returns c = λ ns e. news-end ns _ _ _ _ _ _ _ _ _ _ c.args.ids.now _ _ _ c.loop-id-test.false (c.loop-id.invariant ns e)
