use Rattle.activations.proofs.Counting.{left_none, left_one}
use Rattle.activations.proofs.ScopeLocalLaws.{equations-on, equations-over, scope-locals-are}
use Rattle.activations.proofs.locals.put_scope_locals.Goals as goal

pub loop-preserved : goal.loop-preserved
loop-preserved c = (c.join-m.ensures.0, λ ns e. equations-on ns _ _ _ _ _ _ _ _ _ _ _ _ _ _ _ _ _ _ _ _ _ _ _ e (left_one c.loop-test.true) (c.right_side-e.ensures ns e) (c.list_reads-r.ensures.1 ns e) (c.after_expr-g.ensures ns e) c.join-m.ensures.1 (c.put_equation_locals-q.ensures ns e) (c.loop.invariant.1 ns e))

pub returns : goal.returns
returns c = λ ns e. scope-locals-are ns _ _ _ _ _ _ _ _ _ _ _ _ _ _ _ _ c.number-f.ensures (equations-over ns _ _ _ _ _ _ _ _ _ _ _ _ _ _ _ _ _ (left_none c.loop-test.false) (c.loop.invariant.1 ns e))
