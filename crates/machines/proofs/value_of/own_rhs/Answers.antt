use Rattle.machines.proofs.Remaining.{none_left, one_less, some_left}
use mathlib.Core.Path.{refl}
use borrow.Author.Tests.{eq-eqb}
use Rattle.machines.proofs.CheckedReadLaws.{both_hold, not_both}
use Rattle.machines.proofs.ValueLaws.{side-done, side-found, side-is, side-went}
use Rattle.machines.proofs.value_of.own_rhs.Goals as goal

pub returns-then-l-x : goal.returns-then-l-x
returns-then-l-x c = λ ns e. side-is ns _ _ _ _ _ _ c.number-i.ensures c.number-c.ensures (side-found ns _ _ _ _ _ _ _ _ (some_left c.loop-test.true) c.number-k.ensures c.number-l.ensures (both_hold c.if-k-eq1.true (eq-eqb _ _ c.if-l-x.true)) refl (c.loop.invariant ns e))

pub loop-preserved : goal.loop-preserved
loop-preserved c = λ ns e. rw one_less (side-went ns _ _ _ _ _ _ _ _ _ (some_left c.loop-test.true) c.number-k.ensures c.number-l.ensures (not_both c.else-k-eq1.either) refl (c.end_of-p.ensures ns e) (c.loop.invariant ns e))

pub returns : goal.returns
returns c = λ ns e. side-is ns _ _ _ _ _ _ c.number-i.ensures c.number-c.ensures (side-done ns _ _ _ _ _ (none_left c.loop-test.false) (c.loop.invariant ns e))
