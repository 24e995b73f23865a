use Rattle.machines.proofs.Remaining.{none_left, one_less, some_left}
use mathlib.Core.Path.{◌∙◌}
use Rattle.machines.proofs.ValueLaws.{entered_from, giving-done, giving-found, giving-went}
use Rattle.machines.proofs.value_of.entered.Goals as goal

pub returns-then-is_none : goal.returns-then-is_none
returns-then-is_none c = record { value = λ ns e. c.some_word.ensures ∙ giving-found _ _ _ _ _ _ _ (some_left c.loop-test.true) (c.require_cover_region-m.ensures.value ns e) c.is_none.ensures c.if-is_none.true (c.loop.invariant.0 ns e) ∙ entered_from _ _ _ _ _ c.layout_word-end.ensures c.inner-g.ensures; assigns_sound = c.require_cover_region-m.ensures.assigns_sound }

pub loop-preserved : goal.loop-preserved
loop-preserved c = (λ ns e. rw one_less (giving-went _ _ _ _ _ _ _ _ (some_left c.loop-test.true) (c.require_cover_region-m.ensures.value ns e) c.is_none.ensures c.if-is_none.false c.layout_word-g.ensures (c.loop.invariant.0 ns e)), c.require_cover_region-m.ensures.assigns_sound)

pub returns : goal.returns
returns c = record { value = λ ns e. giving-done _ _ _ _ _ (none_left c.loop-test.false) (c.loop.invariant.0 ns e) ∙ entered_from _ _ _ _ _ c.layout_word-end.ensures c.inner-g.ensures; assigns_sound = c.loop.invariant.1 }
