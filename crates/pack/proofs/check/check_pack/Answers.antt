use Rattle.std.proofs.Common.{sym, subst, ◌∙◌, arith}
use Rattle.std.specs.Prelude.{Err}
use Rattle.std.proofs.lemmas.Result.{err_from_is_err_and}
use Rattle.wire.proofs.Codes.{handed-back}
use Rattle.pack.proofs.CheckLaws.{check-err, check-ok, number_small, value-small, whole-small}
use Rattle.pack.proofs.check.check_pack.Goals as goal

pub returns-in_err-read_pack : goal.returns-in_err-read_pack
returns-in_err-read_pack c =
    let r = handed-back _ _ (err_from_is_err_and c.from_residual.result c.from_residual.ensures.1) in
    let v = sym c.in_err-read_pack.was ∙ c.read_pack.ensures.verdict_value in
    rw r
    record { answers = check-err _ _ v; fits = (number_small c.in_err-read_pack.field-0.0, omega (arith, value-small _ _ v)) }

pub returns : goal.returns
returns c =
    let v = sym c.in_ok-read_pack.was ∙ c.read_pack.ensures.verdict_value in
    record { answers = check-ok _ v; fits = (omega arith, omega (arith, whole-small _ v)) }
