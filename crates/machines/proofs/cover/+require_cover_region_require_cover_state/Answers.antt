use Rattle.machines.proofs.Remaining.{none_left, one_less, some_left}
use mathlib.Core.Path.{◌∙◌}
use Rattle.machines.proofs.CoverLaws.{all_done, all-given, all-went, first_done, first_found, first-went, state-alone, state-own, state-regions, uncovered-none, uncovered-some}
use Rattle.machines.proofs.cover.+require_cover_region_require_cover_state.Goals as goal

pub require_cover_region-returns-then-levels-eq0 : goal.require_cover_region-returns-then-levels-eq0
require_cover_region-returns-then-levels-eq0 t c = record { value = λ ns e. uncovered-none ns _ _ _ _ _ c.if-levels-eq0.true; assigns_sound = c.requires }

pub require_cover_region-returns-then-is_some : goal.require_cover_region-returns-then-is_some
require_cover_region-returns-then-is_some t c = record { value = λ ns e. first_found _ _ _ _ _ _ _ (some_left c.loop-test.true) (c.require_cover_state-m.ensures.value ns e) c.is_some.ensures c.if-is_some.true (c.loop.invariant.0 ns e) ∙ uncovered-some ns _ _ _ _ _ _ _ c.if-levels-eq0.false c.layout_word-end.ensures c.first-p.ensures; assigns_sound = c.require_cover_state-m.ensures.assigns_sound }

pub require_cover_region-loop-preserved : goal.require_cover_region-loop-preserved
require_cover_region-loop-preserved t c = (λ ns e. rw one_less (first-went _ _ _ _ _ _ _ _ (some_left c.loop-test.true) (c.require_cover_state-m.ensures.value ns e) c.is_some.ensures c.if-is_some.false c.layout_word-p.ensures (c.loop.invariant.0 ns e)), c.require_cover_state-m.ensures.assigns_sound)

pub require_cover_region-returns : goal.require_cover_region-returns
require_cover_region-returns t c = record { value = λ ns e. first_done _ _ _ _ _ (none_left c.loop-test.false) (c.loop.invariant.0 ns e) ∙ uncovered-some ns _ _ _ _ _ _ _ c.if-levels-eq0.false c.layout_word-end.ensures c.first-p.ensures; assigns_sound = c.loop.invariant.1 }

pub require_cover_state-returns-then-assigns_with_memo : goal.require_cover_state-returns-then-assigns_with_memo
require_cover_state-returns-then-assigns_with_memo t c = record { value = λ ns e. state-own ns _ _ _ _ _ _ _ c.entry.ensures (c.assigns_with_memo.ensures.value ns e) c.if-assigns_with_memo.true; assigns_sound = c.assigns_with_memo.ensures.assigns_sound }

pub require_cover_state-returns-then-n-eq0 : goal.require_cover_state-returns-then-n-eq0
require_cover_state-returns-then-n-eq0 t c = record { value = λ ns e. c.some_word.ensures ∙ state-alone ns _ _ _ _ _ _ _ _ c.entry.ensures (c.assigns_with_memo.ensures.value ns e) c.if-assigns_with_memo.false c.layout_word-n.ensures c.if-n-eq0.true; assigns_sound = c.assigns_with_memo.ensures.assigns_sound }

pub require_cover_state-returns-then-is_none : goal.require_cover_state-returns-then-is_none
require_cover_state-returns-then-is_none t c = record { value = λ ns e. all-given _ _ _ _ _ _ _ _ (some_left c.loop-test.true) (c.require_cover_region-m.ensures.value ns e) c.is_none.ensures c.if-is_none.true (c.loop.invariant.0 ns e) ∙ state-regions ns _ _ _ _ _ _ _ _ _ c.entry.ensures (c.assigns_with_memo.ensures.value ns e) c.if-assigns_with_memo.false c.layout_word-n.ensures c.if-n-eq0.false c.inner-g.ensures; assigns_sound = c.require_cover_region-m.ensures.assigns_sound }

pub require_cover_state-loop-preserved : goal.require_cover_state-loop-preserved
require_cover_state-loop-preserved t c = (λ ns e. rw one_less (all-went _ _ _ _ _ _ _ _ _ _ (some_left c.loop-test.true) (c.require_cover_region-m.ensures.value ns e) c.is_none.ensures c.if-is_none.false c.or-miss.ensures c.layout_word-g.ensures (c.loop.invariant.0 ns e)), c.require_cover_region-m.ensures.assigns_sound)

pub require_cover_state-returns : goal.require_cover_state-returns
require_cover_state-returns t c = record { value = λ ns e. all_done _ _ _ _ _ _ (none_left c.loop-test.false) (c.loop.invariant.0 ns e) ∙ state-regions ns _ _ _ _ _ _ _ _ _ c.entry.ensures (c.assigns_with_memo.ensures.value ns e) c.if-assigns_with_memo.false c.layout_word-n.ensures c.if-n-eq0.false c.inner-g.ensures; assigns_sound = c.loop.invariant.1 }
