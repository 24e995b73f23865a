use Rattle.machines.proofs.Remaining.{none_left, one_less, some_left}
use native.Mathlib.Omega.{arith}
use mathlib.Core.Path.{◌∙◌}
use Rattle.pack_rules.specs.Read.{region_at, state_with}
use Rattle.machines.proofs.ManyEnds.{counted-done, many-done, many-went}
use Rattle.machines.proofs.StateEnds.{state-over}
use Rattle.machines.proofs.memo.+fill_state_fill_states.Goals as goal

pub fill_state-loop-i-preserved : goal.fill_state-loop-i-preserved
fill_state-loop-i-preserved t c = (λ ns e. let k = c.fill_states-p.ensures.fact ns e (omega (arith, c.if-p-eq0.false)) in rw one_less (many-went (region_at _ ns _) _ _ _ _ (k.1 ∙ c.states_in-c.ensures ns e _ k.0) c.if-p-eq0.false (some_left c.loop-i-test.true) (c.loop-i.invariant.0 ns e)), c.fill_states-p.ensures.memo_sound)

pub fill_state-returns : goal.fill_state-returns
fill_state-returns t c = record { value = λ ns e l. c.state_end-o.ensures ns e _ (region_at _ ns _) (c.memo_head-h.ensures.value ns e) (counted-done (region_at _ ns _) _ _ _ _ _ c.number-r.ensures (none_left c.loop-i-test.false) (c.loop-i.invariant.0 ns e)) l; memo_sound = c.memo_state.ensures _ _ _ c.loop-i.invariant.1 (λ l ns e. (c.memo_head-h.ensures.value ns e, state-over ns _ _ _ _ c.requires.1 (c.state_end-o.ensures ns e _ (region_at _ ns _) (c.memo_head-h.ensures.value ns e) (counted-done (region_at _ ns _) _ _ _ _ _ c.number-r.ensures (none_left c.loop-i-test.false) (c.loop-i.invariant.0 ns e)) l) l)) }

pub fill_states-loop-preserved : goal.fill_states-loop-preserved
fill_states-loop-preserved t c = (λ ns e. rw one_less (many-went (state_with (region_at _ ns _) ns _) _ _ _ _ (c.fill_state-p.ensures.value ns e (omega (arith, c.if-p-eq0.false))) c.if-p-eq0.false (some_left c.loop-test.true) (c.loop.invariant.0 ns e)), c.fill_state-p.ensures.memo_sound)

pub fill_states-returns : goal.fill_states-returns
fill_states-returns t c = record { fact = λ ns e l. (c.if-levels-eq0.false, many-done (state_with (region_at _ ns _) ns _) _ _ _ (none_left c.loop-test.false) (c.loop.invariant.0 ns e)); memo_sound = c.memo_unknown_targets.ensures }
