use native.Mathlib.Omega.{arith}
use mathlib.Core.Path.{◌∙◌}
use Rattle.machines.proofs.RowLaws.{stays-full}
use Rattle.machines.proofs.ValueLaws.{in-entered, in-own, value_none, value-some, values-last, values-more, values-none}
use Rattle.machines.proofs.value_of.+value_in_state_value_of.Goals as goal

pub value_in_state-returns-in-None : goal.value_in_state-returns-in-None
value_in_state-returns-in-None t c = record { result_after = λ ns e. in-own _ _ _ _ ns _ _ _ _ _ _ _ (c.entered.ensures.value ns e) c.in-None.is (c.put_own.ensures ns e _); assigns_sound = c.entered.ensures.assigns_sound }

pub value_in_state-returns-in-Some : goal.value_in_state-returns-in-Some
value_in_state-returns-in-Some t c = record { result_after = λ ns e. in-entered _ _ _ _ ns _ _ _ _ _ _ _ _ (c.entered.ensures.value ns e) c.in-Some.is (c.value_of.ensures.result_after ns e); assigns_sound = c.value_of.ensures.assigns_sound }

pub value_of-returns-then-levels-eq0 : goal.value_of-returns-then-levels-eq0
value_of-returns-then-levels-eq0 t c = record { result_after = λ ns e. value_none _ _ _ _ ns _ _ _ _ c.if-levels-eq0.true; assigns_sound = c.requires }

pub value_of-returns-then-v : goal.value_of-returns-then-v
value_of-returns-then-v t c = record { result_after = λ ns e. stays-full _ _ _ _ _ _ c.if-v.true (c.loop.invariant.0 ns e) ∙ value-some _ _ _ _ ns _ _ _ _ _ _ c.if-levels-eq0.false c.layout_word-n.ensures c.first-p.ensures; assigns_sound = c.loop.invariant.1 }

pub value_of-loop-preserved : goal.value_of-loop-preserved
value_of-loop-preserved t c = (λ ns e. values-more _ _ _ _ _ _ _ _ _ _ _ _ _ (omega arith) (omega arith) c.put_test-a.ensures (c.value_in_state-v.ensures.result_after ns e) c.layout_word-p.ensures (c.loop.invariant.0 ns e), c.value_in_state-v.ensures.assigns_sound)

pub value_of-returns-then-n-eq0 : goal.value_of-returns-then-n-eq0
value_of-returns-then-n-eq0 t c = record { result_after = λ ns e. values-none _ _ _ _ _ _ _ _ _ (omega arith) (c.loop.invariant.0 ns e) ∙ value-some _ _ _ _ ns _ _ _ _ _ _ c.if-levels-eq0.false c.layout_word-n.ensures c.first-p.ensures; assigns_sound = c.loop.invariant.1 }

pub value_of-returns : goal.value_of-returns
value_of-returns t c = record { result_after = λ ns e. c.value_in_state.ensures.result_after ns e ∙ values-last _ _ _ _ _ _ _ _ _ (omega arith) (λ d. absurd (omega arith)) (c.loop.invariant.0 ns e) ∙ value-some _ _ _ _ ns _ _ _ _ _ _ c.if-levels-eq0.false c.layout_word-n.ensures c.first-p.ensures; assigns_sound = c.value_in_state.ensures.assigns_sound }
