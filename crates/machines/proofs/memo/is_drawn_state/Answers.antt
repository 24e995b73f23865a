use Rattle.machines.proofs.Remaining.{none_left, one_less, some_left}
use Rattle.machines.proofs.UnknownTargetLaws.{drawn-done, drawn-found, drawn-went}
use Rattle.machines.proofs.memo.is_drawn_state.Goals as goal

pub returns-then-i-x : goal.returns-then-i-x
returns-then-i-x c = λ ns e. drawn-found ns _ _ _ _ _ _ (some_left c.loop-test.true) c.number-i.ensures c.if-i-x.true (c.loop.invariant ns e)

pub loop-preserved : goal.loop-preserved
loop-preserved c = λ ns e. rw one_less (drawn-went ns _ _ _ _ _ _ _ (some_left c.loop-test.true) c.number-i.ensures c.if-i-x.false (c.past_of-p.ensures ns e) (c.loop.invariant ns e))

pub returns : goal.returns
returns c = λ ns e. drawn-done ns _ _ _ _ _ (none_left c.loop-test.false) (c.loop.invariant ns e)
