use Rattle.activations.proofs.Counting.{left_none, left_one}
use Rattle.activations.proofs.ScopeLaws.{branches-end, branches-stop, branches-more, scopes-are}
use Rattle.activations.proofs.scopes.put_scopes.Goals.{else-loop-k-test, then-loop-k-test+then-v}
use Rattle.activations.proofs.scopes.put_scopes.Goals as goal

pub loop-k-preserved : goal.loop-k-preserved
loop-k-preserved c = λ ns e. branches-more _ _ _ _ _ ns _ _ _ _ _ _ _ _ _ _ _ _ _ _ _ (left_one c.loop-k-test.true) (c.branch_equations-e.ensures ns e) (c.after_branch-p.ensures ns e) (c.put_scope_equations-v.ensures ns e) (c.loop-k.invariant ns e)

pub returns : goal.returns
returns c = λ ns e. scopes-are _ _ _ _ _ ns _ _ _ _ _ _ _ _ _ _ _ _ _ c.number-f.ensures (elim c.loop-k-test.branch [ else-loop-k-test w ↦ branches-end _ _ _ _ _ ns _ _ _ _ _ _ _ _ _ _ _ _ (left_none w.loop-k-test.false) (c.loop-k.invariant ns e) | then-loop-k-test+then-v w ↦ branches-stop _ _ _ _ _ ns _ _ _ _ _ _ _ _ _ _ _ _ _ _ w.if-v.true (c.loop-k.invariant ns e) ]) (c.put_scope_equations.ensures ns e)
