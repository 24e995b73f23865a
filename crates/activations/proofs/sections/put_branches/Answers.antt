use Rattle.activations.proofs.Counting.{left_none, left_one, stopped}
use Rattle.activations.proofs.OriginLaws.{branches-done, branches-more}
use Rattle.activations.proofs.sections.put_branches.Goals as goal

pub loop-preserved : goal.loop-preserved
loop-preserved c = λ ns e old l. branches-more ns _ old _ _ _ _ _ _ _ (left_one c.loop-test.true) c.number-i.ensures (c.put_u16-v.ensures l) (c.after_branch-p.ensures ns e) (c.loop.invariant ns e old l)

pub returns-after-loop : goal.returns-after-loop
returns-after-loop c = λ ns e old l. branches-done ns _ old _ _ _ _ (left_none c.loop-test.false) (c.loop.invariant ns e old l)

pub returns-then-v : goal.returns-then-v
returns-then-v c = λ ns e old l. stopped old _ _ _ _ _ c.if-v.true (c.loop.invariant ns e old l)
