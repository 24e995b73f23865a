use Rattle.machines.proofs.Remaining.{none_left, one_less, some_left}
use mathlib.Core.Path.{sym, ◌∙◌}
use Rattle.machines.proofs.UnknownTargetLaws.{aimed-done, aimed-stop, aimed-went, among-now}
use Rattle.machines.proofs.memo.first_unknown_target.Goals as goal

pub loop-preserved : goal.loop-preserved
loop-preserved c = (λ ns e. rw one_less (aimed-went ns _ _ _ _ _ _ _ _ (some_left c.loop-test.true) (c.guard_end.ensures ns e) c.number-x.ensures (sym c.if-not-is_known_target.false ∙ c.is_known_target.ensures ns e) (c.loop.invariant.0 ns e)), (among-now _ _ _ _ _ _ c.is_known_target.ensures c.if-not-is_known_target.false))

pub returns-then-not-is_known_target : goal.returns-then-not-is_known_target
returns-then-not-is_known_target c = λ ns e. aimed-stop ns _ _ _ _ _ _ _ _ (some_left c.loop-test.true) (c.guard_end.ensures ns e) c.number-x.ensures (sym c.if-not-is_known_target.true ∙ c.is_known_target.ensures ns e) (c.loop.invariant.0 ns e)

pub returns : goal.returns
returns c = λ ns e. aimed-done ns _ _ _ _ _ _ (none_left c.loop-test.false) (c.loop.invariant.0 ns e)
