use Rattle.machines.proofs.Remaining.{all_left, none_left, one_less, some_left}
use mathlib.Core.Path.{sym, ◌∙◌}
use Rattle.machines.proofs.ValidateLaws.{moves-done, moves-stop, moves-went, has-now, targets-from}
use Rattle.machines.proofs.validate.check_targets.Goals as goal

pub loop-init : goal.loop-init
loop-init c = (λ ns e. rw all_left (targets-from ns _ _ _ _ _ _ c.layout_word.ensures c.number-c.ensures), tt)

pub loop-preserved : goal.loop-preserved
loop-preserved c = (λ ns e. rw one_less (moves-went ns _ _ _ _ _ _ _ _ _ (some_left c.loop-test.true) (c.guard_end.ensures ns e) c.number-x.ensures (sym c.if-not-has_target.false ∙ c.has_target.ensures) (c.loop.invariant.0 ns e)), (has-now _ _ _ _ _ c.has_target.ensures c.if-not-has_target.false))

pub returns-then-not-has_target : goal.returns-then-not-has_target
returns-then-not-has_target c = λ ns e. moves-stop ns _ _ _ _ _ _ _ _ _ (some_left c.loop-test.true) (c.guard_end.ensures ns e) c.number-x.ensures (sym c.if-not-has_target.true ∙ c.has_target.ensures) (c.loop.invariant.0 ns e)

pub returns : goal.returns
returns c = λ ns e. moves-done ns _ _ _ _ _ _ _ (none_left c.loop-test.false) (c.loop.invariant.0 ns e)
