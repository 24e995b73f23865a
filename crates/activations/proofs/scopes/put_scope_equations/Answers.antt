use Rattle.activations.proofs.Counting.{left_none, left_one}
use Rattle.activations.proofs.ScopeLaws.{equations-end, equations-stop, equations-more, scope-is}
use Rattle.activations.proofs.scopes.put_scope_equations.Goals as goal

pub loop-preserved : goal.loop-preserved
loop-preserved c = (c.join-m.ensures.0, λ ns e. equations-more _ _ _ _ _ ns _ _ _ _ _ _ _ _ _ _ _ _ _ _ _ _ _ _ (left_one c.loop-test.true) (c.right_side-e.ensures ns e) (c.list_reads-r.ensures.1 ns e) (c.after_expr-p.ensures ns e) c.join-m.ensures.1 (c.put_equation-v.ensures ns e) (c.loop.invariant.1 ns e))

pub returns-after-loop : goal.returns-after-loop
returns-after-loop c = λ ns e. scope-is _ _ _ _ _ ns _ _ _ _ _ _ _ _ _ _ _ _ c.number-f.ensures (equations-end _ _ _ _ _ ns _ _ _ _ _ _ _ _ _ _ _ _ _ (left_none c.loop-test.false) (c.loop.invariant.1 ns e))

pub returns-then-v : goal.returns-then-v
returns-then-v c = λ ns e. scope-is _ _ _ _ _ ns _ _ _ _ _ _ _ _ _ _ _ _ c.number-f.ensures (equations-stop _ _ _ _ _ ns _ _ _ _ _ _ _ _ _ _ _ _ _ _ _ c.if-v.true (c.loop.invariant.1 ns e))
