use Rattle.machines.proofs.Remaining.{all_left, none_left, one_less, some_left}
use borrow.Enum.Refused.{opened as unsealed}
use native.Mathlib.Omega.{arith}
use mathlib.Core.Path.{sym, ◌∙◌}
use Rattle.machines.proofs.ValidateLaws.{region-goes, region-initial, region-none, rows-done, rows-from, rows-stop, rows-went, state-goes, state-stops, stops}
use Rattle.machines.proofs.RecalledRows.{foreseen-from, foreseen-one, foreseen-went}
use Rattle.machines.proofs.validate.+validate_region_validate_state.Goals as goal

pub validate_region-returns-then-levels-eq0 : goal.validate_region-returns-then-levels-eq0
validate_region-returns-then-levels-eq0 t c = λ ns e. region-none ns _ _ _ _ c.if-levels-eq0.true

pub validate_region-loop-init : goal.validate_region-loop-init
validate_region-loop-init t c = (λ ns e. rw all_left (rows-from _ _ _ _ _ _ c.layout_word-end.ensures c.first-p.ensures), λ ns e. rw all_left (foreseen-from ns _ _ _ _ _ _ _ _ c.layout_word-end.ensures c.first-p.ensures (c.recall_targets-v.ensures ns e)))

pub validate_region-validate_state-r-requires : goal.validate_region-validate_state-r-requires
validate_region-validate_state-r-requires t c = (omega (arith, c.if-levels-eq0.false, c.decreases), (λ ns e. foreseen-one ns _ _ _ _ _ _ (some_left c.loop-test.true) (c.loop.invariant.1 ns e)))

pub validate_region-returns-in_default : goal.validate_region-returns-in_default
validate_region-returns-in_default t c = λ ns e. region-goes ns _ _ _ _ _ _ c.if-levels-eq0.false c.entry.ensures (sym c.if-not-has_state.false ∙ c.has_state.ensures) (rows-stop _ _ _ _ _ _ (some_left c.loop-test.true) (c.validate_state-r.ensures ns e) (stops _ (unsealed c.in_default.in_default-own.keys2)) (c.loop.invariant.0 ns e))

pub validate_region-loop-preserved : goal.validate_region-loop-preserved
validate_region-loop-preserved t c = (λ ns e. rw one_less (rows-went _ _ _ _ _ _ _ (some_left c.loop-test.true) (c.validate_state-r.ensures ns e) c.in-Fine.is c.layout_word-p.ensures (c.loop.invariant.0 ns e)), λ ns e. rw one_less (foreseen-went ns _ _ _ _ _ _ _ _ (some_left c.loop-test.true) c.onward-v.ensures c.layout_word-p.ensures (c.loop.invariant.1 ns e)))

pub validate_region-returns : goal.validate_region-returns
validate_region-returns t c = λ ns e. region-goes ns _ _ _ _ _ _ c.if-levels-eq0.false c.entry.ensures (sym c.if-not-has_state.false ∙ c.has_state.ensures) (rows-done _ _ _ _ _ (none_left c.loop-test.false) (c.loop.invariant.0 ns e))

pub validate_region-returns-then-not-has_state : goal.validate_region-returns-then-not-has_state
validate_region-returns-then-not-has_state t c = λ ns e. region-initial ns _ _ _ _ _ c.if-levels-eq0.false c.entry.ensures (sym c.if-not-has_state.true ∙ c.has_state.ensures)

pub validate_state-returns-in_default : goal.validate_state-returns-in_default
validate_state-returns-in_default t c = λ ns e. state-stops ns _ _ _ _ _ _ (c.check_transitions-c.ensures ns e) (stops _ (unsealed c.in_default.in_default-own.keys2))

pub validate_state-loop-init : goal.validate_state-loop-init
validate_state-loop-init t c = λ ns e. rw all_left (rows-from _ _ _ _ _ _ c.layout_word-end.ensures c.inner-g.ensures)

pub validate_state-returns-in_default-r : goal.validate_state-returns-in_default-r
validate_state-returns-in_default-r t c = λ ns e. state-goes ns _ _ _ _ _ _ _ (c.check_transitions-c.ensures ns e) c.in-Fine.is (rows-stop _ _ _ _ _ _ (some_left c.loop-test.true) (c.validate_region-r.ensures ns e) (stops _ (unsealed c.in_default-r.in_default-r-own.keys2)) (c.loop.invariant ns e))

pub validate_state-loop-preserved : goal.validate_state-loop-preserved
validate_state-loop-preserved t c = λ ns e. rw one_less (rows-went _ _ _ _ _ _ _ (some_left c.loop-test.true) (c.validate_region-r.ensures ns e) c.in-Fine-r.is c.layout_word-g.ensures (c.loop.invariant ns e))

pub validate_state-returns : goal.validate_state-returns
validate_state-returns t c = λ ns e. state-goes ns _ _ _ _ _ _ _ (c.check_transitions-c.ensures ns e) c.in-Fine.is (rows-done _ _ _ _ _ (none_left c.loop-test.false) (c.loop.invariant ns e))
