use Rattle.activations.proofs.CheckLaws.{branchless-is, doubled-is, misused-is, outputless-is, passed_is, unassigned-is}
use mathlib.Core.Path.{refl}
use Rattle.std.proofs.lemmas.Result.{err_from_is_err_and}
use Rattle.activations.proofs.RefusalNumbers.{kind-some}
use Rattle.activations.specs.Refusing.{checked_as, numbers_of}
use Rattle.activations.proofs.checks.checks.Goals as goal

pub returns-then-a-eq0 : goal.returns-then-a-eq0
unfolding checked_as numbers_of
returns-then-a-eq0 c = λ ns e. branchless-is ns _ _ _ _ _ _ _ e c.if-a-eq0.true refl

pub returns-then-c-eq0 : goal.returns-then-c-eq0
unfolding checked_as numbers_of
returns-then-c-eq0 c = λ ns e. outputless-is ns _ _ _ _ _ _ _ _ e c.if-a-eq0.false c.number-c.ensures c.if-c-eq0.true refl

pub returns-then-x-info : goal.returns-then-x-info
unfolding checked_as numbers_of
returns-then-x-info c = λ ns e. doubled-is ns _ _ _ _ _ _ _ _ _ e c.if-a-eq0.false c.number-c.ensures c.if-c-eq0.false (c.repeated-x.ensures ns e) c.if-x-info.true refl

pub returns-in_err-in_scopes : goal.returns-in_err-in_scopes
unfolding checked_as
returns-in_err-in_scopes c =
    let p = err_from_is_err_and c.from_residual.result c.from_residual.ensures.1 in
    rw (p.1, p.2) (λ ns e. unassigned-is ns _ _ _ _ _ _ _ _ _ e c.if-a-eq0.false c.number-c.ensures c.if-c-eq0.false (c.repeated-x.ensures ns e) c.if-x-info.false (c.in_err-in_scopes.ensures ns e) (kind-some _ _))

pub returns-then-any_bad_last : goal.returns-then-any_bad_last
unfolding checked_as numbers_of
returns-then-any_bad_last c = λ ns e. misused-is ns _ _ _ _ _ _ _ _ _ _ _ e c.if-a-eq0.false c.number-c.ensures c.if-c-eq0.false (c.repeated-x.ensures ns e) c.if-x-info.false (c.in_ok-in_scopes.ensures ns e) refl (c.any_bad_last.ensures ns e) c.if-any_bad_last.true refl

pub returns : goal.returns
unfolding checked_as numbers_of
returns c = λ ns e. passed_is ns _ _ _ _ _ _ _ _ _ _ _ e c.if-a-eq0.false c.number-c.ensures c.if-c-eq0.false (c.repeated-x.ensures ns e) c.if-x-info.false (c.in_ok-in_scopes.ensures ns e) refl (c.any_bad_last.ensures ns e) c.if-any_bad_last.false refl
