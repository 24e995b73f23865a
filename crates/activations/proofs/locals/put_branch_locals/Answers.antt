use Rattle.activations.proofs.Counting.{left_none, left_one}
use Rattle.activations.proofs.ScopeLocalLaws.{branches-on, branches-over}
use Rattle.activations.proofs.locals.put_branch_locals.Goals as goal

pub loop-k-preserved : goal.loop-k-preserved
loop-k-preserved c = λ ns e. branches-on ns _ _ _ _ _ _ _ _ _ _ _ _ _ _ _ _ _ _ _ (left_one c.loop-k-test.true) (c.branch_equations-e.ensures ns e) (c.after_branch-g.ensures ns e) (c.put_scope_locals-q.ensures ns e) (c.loop-k.invariant ns e)

pub returns : goal.returns
returns c = λ ns e. branches-over ns _ _ _ _ _ _ _ _ _ _ _ _ _ _ _ _ (left_none c.loop-k-test.false) (c.loop-k.invariant ns e)
