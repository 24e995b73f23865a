use Rattle.machines.proofs.Remaining.{none_left, one_less, some_left}
use borrow.Enum.Refused.{opened as unsealed}
use mathlib.Core.Path.{refl, ◌∙◌}
use Rattle.machines.specs.CheckedReads.{number_in}
use Rattle.machines.specs.ResolveAt.{walk}
use Rattle.machines.proofs.CheckedReadLaws.{on}
use Rattle.machines.proofs.ResolveLaws.{moved, qualified, refine-into, refine-plain, rounds-done, rounds-stopped, rounds-went, state-large, state-on, stopped, walk_none, walk-some, went_on}
use Rattle.machines.proofs.EmptyLaws.{once-near, taken-stopped, taken-went}
use Rattle.machines.proofs.resolve.+resolve_state_resolve_states.Goals as goal

pub resolve_state-returns-then-count-ge-STATES : goal.resolve_state-returns-then-count-ge-STATES
resolve_state-returns-then-count-ge-STATES t c = λ ns e. state-large ns _ _ _ _ _ _ _ c.if-count-ge-STATES.true

pub resolve_state-take_regions-g-requires : goal.resolve_state-take_regions-g-requires
resolve_state-take_regions-g-requires t c = once-near _ _ _ _ c.run_length-k.ensures

pub resolve_state-returns-in_default : goal.resolve_state-returns-in_default
resolve_state-returns-in_default t c = λ ns e. state-on ns _ _ _ _ _ _ _ _ _ _ c.if-count-ge-STATES.false (c.state_head-h.ensures ns e) c.number-t.ensures
    (stopped _ _ _ (unsealed c.in_default.in_default-own.keys2) (taken-stopped ns _ _ _ _ _ e c.args.tables.now.lengths _ _ _ _ _ _ _ _ _ _ c.run_length-k.ensures c.take_regions-g.ensures (c.resolve_states-e.ensures ns e) (unsealed c.in_default.in_default-own.keys2) (c.loop-n.invariant ns e)))

pub resolve_state-loop-n-preserved : goal.resolve_state-loop-n-preserved
resolve_state-loop-n-preserved t c = λ ns e. taken-went ns _ _ _ _ _ e c.args.tables.now.lengths _ _ _ _ _ _ _ _ _ _ _ _ _ _ _ c.run_length-k.ensures c.take_regions-g.ensures (c.resolve_states-e.ensures ns e) c.in-Went.is c.max.ensures c.max-a.ensures (c.loop-n.invariant ns e)

pub resolve_state-returns-then-f-eq-ABSENT : goal.resolve_state-returns-then-f-eq-ABSENT
resolve_state-returns-then-f-eq-ABSENT t c = λ ns e. state-on ns _ _ _ _ _ _ _ _ _ _ c.if-count-ge-STATES.false (c.state_head-h.ensures ns e) c.number-t.ensures
    (went_on _ _ _ _ _ _ _ refl (rounds-done _ _ _ _ _ _ c.loop-n-test.false (c.loop-n.invariant ns e)) (on (number_in _ _) _ _ _ refl (refine-plain ns _ _ _ _ _ _ _ _ _ _ c.number-f.ensures c.if-f-eq-ABSENT.true)))

pub resolve_state-returns-in_default-d : goal.resolve_state-returns-in_default-d
resolve_state-returns-in_default-d t c = λ ns e. state-on ns _ _ _ _ _ _ _ _ _ _ c.if-count-ge-STATES.false (c.state_head-h.ensures ns e) c.number-t.ensures
    (went_on _ _ _ _ _ _ _ refl (rounds-done _ _ _ _ _ _ c.loop-n-test.false (c.loop-n.invariant ns e)) (on _ _ _ _ c.number-i.ensures
    (refine-into ns _ _ _ _ _ _ _ _ _ _ _ c.number-f.ensures c.if-f-eq-ABSENT.false (stopped _ _ _ (unsealed c.in_default-d.in_default-d-own.keys2) c.refinement-d.ensures))))

pub resolve_state-returns-in_default-y : goal.resolve_state-returns-in_default-y
resolve_state-returns-in_default-y t c = λ ns e. state-on ns _ _ _ _ _ _ _ _ _ _ c.if-count-ge-STATES.false (c.state_head-h.ensures ns e) c.number-t.ensures
    (went_on _ _ _ _ _ _ _ refl (rounds-done _ _ _ _ _ _ c.loop-n-test.false (c.loop-n.invariant ns e)) (on _ _ _ _ c.number-i.ensures
    (refine-into ns _ _ _ _ _ _ _ _ _ _ _ c.number-f.ensures c.if-f-eq-ABSENT.false (went_on _ _ _ _ _ _ _ c.in-Went-d.is c.refinement-d.ensures
    (stopped _ _ _ (unsealed c.in_default-y.in_default-y-own.keys2) (moved (walk ns _ _ _ _) _ _ _ _ _ _ (c.resolve_states-y.ensures ns e) c.push-q.ensures))))))

pub resolve_state-returns : goal.resolve_state-returns
resolve_state-returns t c = λ ns e. state-on ns _ _ _ _ _ _ _ _ _ _ c.if-count-ge-STATES.false (c.state_head-h.ensures ns e) c.number-t.ensures
    (went_on _ _ _ _ _ _ _ refl (rounds-done _ _ _ _ _ _ c.loop-n-test.false (c.loop-n.invariant ns e)) (on _ _ _ _ c.number-i.ensures
    (refine-into ns _ _ _ _ _ _ _ _ _ _ _ c.number-f.ensures c.if-f-eq-ABSENT.false (went_on _ _ _ _ _ _ _ c.in-Went-d.is c.refinement-d.ensures
    (went_on _ _ _ _ _ _ _ c.in-Went-y.is (moved (walk ns _ _ _ _) _ _ _ _ _ _ (c.resolve_states-y.ensures ns e) c.push-q.ensures)
    (qualified _ _ _ _ _ _ _ _ c.qualified_len.ensures c.name_len.ensures c.max-2.ensures))))))

pub resolve_states-returns-then-levels-eq0 : goal.resolve_states-returns-then-levels-eq0
resolve_states-returns-then-levels-eq0 t c = λ ns e. walk_none ns _ _ _ _ _ _ _ _ c.if-levels-eq0.true

pub resolve_states-returns-in_default : goal.resolve_states-returns-in_default
resolve_states-returns-in_default t c = λ ns e. rounds-stopped _ _ _ _ _ _ _ (some_left c.loop-test.true) (unsealed c.in_default.in_default-own.keys2) (c.resolve_state-e.ensures ns e) (c.loop.invariant ns e) ∙ walk-some ns _ _ _ _ _ _ _ _ c.if-levels-eq0.false

pub resolve_states-loop-preserved : goal.resolve_states-loop-preserved
resolve_states-loop-preserved t c = λ ns e. rw one_less (rounds-went _ _ _ _ _ _ _ _ _ _ _ (some_left c.loop-test.true) c.in-Went.is (c.resolve_state-e.ensures ns e) c.max-a.ensures (c.loop.invariant ns e))

pub resolve_states-returns : goal.resolve_states-returns
resolve_states-returns t c = λ ns e. rounds-done _ _ _ _ _ _ (none_left c.loop-test.false) (c.loop.invariant ns e) ∙ walk-some ns _ _ _ _ _ _ _ _ c.if-levels-eq0.false
