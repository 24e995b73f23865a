use mathlib.Core.Path.{refl, sym, ◌∙◌}
use native.Mathlib.Omega.{arith}
use Rattle.activations.proofs.ActJudged.{judge-checked, judge-leftless, judge-made, judge-unheld}
use Rattle.std.proofs.lemmas.Result.{err_from_is_err_and}
use Rattle.activations.specs.Refusing.{checked_as, numbers_of}
use Rattle.activations.specs.Verdicts.{locals_of, row_judged, row_refused}
use Rattle.activations.proofs.RefusalNumbers.{held-err, held-ok, kind-some}
use Rattle.activations.proofs.verdicts.judge_act.Goals as goal

pub returns-in_err-checks : goal.returns-in_err-checks
unfolding checked_as row_judged row_refused locals_of
returns-in_err-checks c =
    let p = err_from_is_err_and c.from_residual.result c.from_residual.ensures.1 in
    rw (p.1, p.2) (λ ns es at A n B R T. judge-checked ns es _ _ _ _ B at A _ R n _ T _ _ _ (omega (arith, c.requires.3.for_numbers)) c.requires.3.for_outputs (c.in_err-checks.ensures ns (sym B.names)) (kind-some _ _) _ _ refl refl)

pub returns-in_err-prepared : goal.returns-in_err-prepared
unfolding checked_as row_judged locals_of
returns-in_err-prepared c =
    let p = err_from_is_err_and c.from_residual-in_err-prepared.result c.from_residual-in_err-prepared.ensures.1 in
    let h = held-err _ _ _ c.in_err-prepared.was c.prepare-prepared.ensures.alone in
    rw (p.1, p.2) (λ ns es at A n B R T. judge-unheld ns es _ _ _ _ B at A _ R n _ T _ _ _ (omega (arith, c.requires.3.for_numbers)) c.requires.3.for_outputs (c.in_ok-checks.ensures ns (sym B.names)) refl _ _ _ _ c.pack_name-a.ensures _ (c.prepare-prepared.ensures.begun ns (sym B.names)) (c.checks.auto.marks ∙ c.requires.3.for_numbers) (omega (arith, c.checks.auto.sampled, c.requires.3.for_outputs)) c.requires.3.for_rows h.0 _ _ h.1 refl)

pub returns-then-has_empty_left : goal.returns-then-has_empty_left
unfolding checked_as row_judged row_refused numbers_of locals_of
returns-then-has_empty_left c = λ ns es at A n B R T. judge-leftless ns es _ _ _ _ B at A _ R n _ T _ _ _ (omega (arith, c.requires.3.for_numbers)) c.requires.3.for_outputs (c.in_ok-checks.ensures ns (sym B.names)) refl _ _ _ _ c.pack_name-a.ensures _ (c.prepare-prepared.ensures.begun ns (sym B.names)) (c.checks.auto.marks ∙ c.requires.3.for_numbers) (omega (arith, c.checks.auto.sampled, c.requires.3.for_outputs)) c.requires.3.for_rows (held-ok _ _ _ c.in_ok-prepared.was) _ (c.has_empty_left.ensures ns (sym B.names)) c.if-has_empty_left.true _ _ refl refl

pub returns : goal.returns
unfolding checked_as row_judged locals_of
returns c = λ ns es at A n B R T. judge-made ns es _ _ _ _ B at A _ R n _ T _ _ _ (omega (arith, c.requires.3.for_numbers)) c.requires.3.for_outputs (c.in_ok-checks.ensures ns (sym B.names)) refl _ _ _ _ c.pack_name-a.ensures _ (c.prepare-prepared.ensures.begun ns (sym B.names)) (c.checks.auto.marks ∙ c.requires.3.for_numbers) (omega (arith, c.checks.auto.sampled, c.requires.3.for_outputs)) c.requires.3.for_rows (held-ok _ _ _ c.in_ok-prepared.was) _ (c.has_empty_left.ensures ns (sym B.names)) c.if-has_empty_left.false (c.prepare-prepared.auto.types ∙ c.checks.auto.marks ∙ c.requires.3.for_numbers) c.requires.3.for_types _ _ _ refl (c.count_and_type_locals-locals.ensures ns (sym B.names))
