use Rattle.machines.proofs.Remaining.{none_left, one_less, some_left}
use Rattle.machines.proofs.EmptyLaws.{once-near, opened-on}
use mathlib.Core.Path.{refl, sym}
use borrow.Author.Tests.{eq-eqb, ne_eqb}
use Rattle.machines.proofs.CheckedReadLaws.{both_hold}
use Rattle.machines.proofs.LayoutLaws.{close-region, inner-done, refine-into, refine-plain, region-left, region-none, region-some, state-on, times-done, times-went}
use mathlib.Core.Path.{◌∙◌}
use Rattle.machines.proofs.layout.+layout_region_layout_state.Goals.{layout_region-else-h-eq0-via-then-h-eq0+else-c, layout_region-else-h-eq0-via-else-h-eq0}
use Rattle.machines.proofs.layout.+layout_region_layout_state.Goals as goal

pub layout_region-returns-then-levels-eq0 : goal.layout_region-returns-then-levels-eq0
layout_region-returns-then-levels-eq0 t c = λ ns e. region-none ns _ _ _ _ _ _ _ _ _ _ _ _ _ _ c.if-levels-eq0.true c.at_offset.ensures

pub layout_region-returns-then-c : goal.layout_region-returns-then-c
layout_region-returns-then-c t c = λ ns e. region-left ns _ _ _ _ _ _ _ _ _ _ _ _ _ _ _ c.if-levels-eq0.false (both_hold c.if-h-eq0.true c.if-c.true) refl c.at_offset-then-c.ensures

pub layout_region-loop-preserved : goal.layout_region-loop-preserved
layout_region-loop-preserved t c = λ ns e. rw one_less (times-went _ _ _ _ _ (some_left c.loop-test.true) (c.layout_state-e.ensures ns e) (c.loop.invariant ns e))

pub layout_region-returns : goal.layout_region-returns
layout_region-returns t c = λ ns e. region-some ns _ _ _ _ _ _ _ _ _ _ _ _ _ _ c.if-levels-eq0.false (elim c.else-h-eq0.branch [ layout_region-else-h-eq0-via-then-h-eq0+else-c w ↦ rw (eq-eqb _ _ w.if-h-eq0.true) (sym w.if-c.false) | layout_region-else-h-eq0-via-else-h-eq0 w ↦ rw (ne_eqb _ _ w.if-h-eq0.false) ]) refl (c.open_region-e.ensures c.args.qualified.now) (times-done _ _ _ _ (none_left c.loop-test.false) (c.loop.invariant ns e)) (close-region _ _ _ _ _ _ c.put_word.ensures)

pub layout_state-open_regions-h-requires : goal.layout_state-open_regions-h-requires
layout_state-open_regions-h-requires t c = once-near _ _ _ _ c.skip_empty_regions-j.ensures.0

pub layout_state-loop-n-preserved : goal.layout_state-loop-n-preserved
layout_state-loop-n-preserved t c = λ ns e. (opened-on ns _ _ _ _ _ e c.args.drawing.now.sound _ _ _ _ _ _ _ _ _ _ _ _ _ _ _ _ _ _ _ c.skip_empty_regions-j.ensures.0 c.skip_empty_regions-j.ensures.1 c.open_regions-h.ensures (c.layout_region-d.ensures ns e) c.count_region-k.ensures) ∙ (c.loop-n.invariant ns e)

pub layout_state-returns-then-f-eq-ABSENT : goal.layout_state-returns-then-f-eq-ABSENT
layout_state-returns-then-f-eq-ABSENT t c = λ ns e. state-on ns _ _ _ _ _ _ _ _ _ _ _ (c.open_state-b.ensures ns e c.args.rows.now).0 (c.open_state-b.ensures ns e c.args.rows.now).1 (refine-plain ns _ _ _ _ _ _ _ _ _ _ _ _ c.number-f.ensures c.if-f-eq-ABSENT.true (c.close_state.ensures c.loop-n.rows c.loop-n.qualified) ∙ inner-done _ _ _ _ _ _ c.loop-n-test.false (c.loop-n.invariant ns e))

pub layout_state-returns : goal.layout_state-returns
layout_state-returns t c = λ ns e. state-on ns _ _ _ _ _ _ _ _ _ _ _ (c.open_state-b.ensures ns e c.args.rows.now).0 (c.open_state-b.ensures ns e c.args.rows.now).1 (refine-into ns _ _ _ _ _ _ _ _ _ _ _ _ _ _ _ _ c.number-f.ensures c.if-f-eq-ABSENT.false c.cell.ensures c.machine_head-h.ensures (c.layout_region-d-2.ensures ns e) c.count_region.ensures (c.close_state-2.ensures _ _) ∙ inner-done _ _ _ _ _ _ c.loop-n-test.false (c.loop-n.invariant ns e))
