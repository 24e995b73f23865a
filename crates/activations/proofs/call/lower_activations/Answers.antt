use Rattle.std.proofs.Common.{[], sym, ◌∙◌}
use Rattle.std.proofs.lemmas.Result.{err_from_is_err_and}
use Rattle.wire.proofs.Codes.{handed-back}
use Rattle.activation_rules.specs.Call.{lower_activations, lower_package_activations}
use Rattle.machines.proofs.ByVerdict.{opened, stopped}
use Rattle.activations.proofs.call.lower_activations.Goals as goal

pub returns-in_err-opened : goal.returns-in_err-opened
unfolding lower_activations
returns-in_err-opened c =
    let r = handed-back _ _ (err_from_is_err_and c.from_residual.result c.from_residual.ensures.1) in
    let v = sym c.in_err-opened.was ∙ c.read_pack-opened.ensures.verdict_value in
    rw r
    record {
      answers = (stopped _ _ v _ _ _).0;
      fits = (stopped _ _ v (lower_package_activations 0 0) [] []).1;
    }

pub lower_checked-requires : goal.lower_checked-requires
lower_checked-requires c = opened _ (sym c.in_ok-opened.was ∙ c.read_pack-opened.ensures.verdict_value) _ c.read_pack-opened.ensures.pack_value

pub returns : goal.returns
returns c = record { answers = c.lower_checked.ensures.answers; fits = c.lower_checked.ensures.fits }
