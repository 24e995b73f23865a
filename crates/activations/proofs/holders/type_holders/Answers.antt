use Rattle.activations.proofs.TypeHolderLaws.{from_end, from_on, from-stop}
use mathlib.Core.Path.{refl}
use Rattle.std.proofs.lemmas.Result.{err_from_is_err_and}
use Rattle.activations.proofs.RefusalNumbers.{kind-some}
use Rattle.activations.specs.Refusing.{held_kind, held_var}
use Rattle.activations.proofs.holders.type_holders.Goals as goal

pub returns-in_err-type_holder-clause-held : goal.returns-in_err-type_holder-clause-held
unfolding held_kind held_var
returns-in_err-type_holder-clause-held c =
    let p = err_from_is_err_and c.from_residual.result c.from_residual.ensures.1 in
    rw (p.1, p.2) (λ ns e. from-stop ns _ _ _ _ _ _ _ _ _ _ _ _ _ _ _ c.loop-h-test.true (c.in_err-type_holder.ensures.held ns e) (kind-some _ _) (c.loop-h.invariant ns e))

pub loop-h-preserved : goal.loop-h-preserved
unfolding held_kind
loop-h-preserved c = λ ns e. from_on ns _ _ _ _ _ _ _ _ _ _ _ _ _ _ _ c.loop-h-test.true (c.in_ok-type_holder.ensures.held ns e) refl (c.loop-h.invariant ns e)

pub returns-clause-held : goal.returns-clause-held
unfolding held_kind held_var
returns-clause-held c = λ ns e. from_end ns _ _ _ _ _ _ _ _ _ _ _ c.loop-h-test.false (c.loop-h.invariant ns e)
