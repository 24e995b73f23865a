use Rattle.activations.proofs.Counting.{left_none, left_one}
use Rattle.activations.proofs.PlaceLaws.{along-end, along-more}
use Rattle.activations.proofs.CheckLaws.{else-named, scope-named}
use Rattle.activations.specs.Refusing.{branch_number}
use Rattle.activations.proofs.checks.scope_name.Goals as goal

pub returns-then-a-k : goal.returns-then-a-k
unfolding branch_number
returns-then-a-k c = λ ns e. else-named ns _ _ _ _ e c.if-a-k.true

pub loop-preserved : goal.loop-preserved
loop-preserved c = λ ns e. along-more _ _ _ _ _ (left_one c.loop-test.true) (c.after_branch-p.ensures ns e) (c.loop.invariant ns e)

pub returns : goal.returns
unfolding branch_number
returns c = λ ns e. scope-named ns _ _ _ _ _ _ c.if-a-k.false c.number-c.ensures (along-end _ _ _ _ (left_none c.loop-test.false) (c.loop.invariant ns e)) c.number-i.ensures
