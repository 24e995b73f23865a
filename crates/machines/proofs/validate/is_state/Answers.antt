use Rattle.machines.proofs.Remaining.{none_left, one_less, some_left}
use Rattle.machines.proofs.ValidateLaws.{among-done, among-found, among-went}
use Rattle.machines.proofs.validate.is_state.Goals as goal

pub returns-then-i-x : goal.returns-then-i-x
returns-then-i-x c = among-found _ _ _ _ _ _ _ _ (some_left c.loop-test.true) c.entry.ensures c.number-i.ensures c.if-i-x.true c.loop.invariant

pub loop-preserved : goal.loop-preserved
loop-preserved c = rw one_less (among-went _ _ _ _ _ _ _ _ _ (some_left c.loop-test.true) c.entry.ensures c.number-i.ensures c.if-i-x.false c.layout_word-p.ensures c.loop.invariant)

pub returns : goal.returns
returns c = among-done _ _ _ _ _ _ (none_left c.loop-test.false) c.loop.invariant
