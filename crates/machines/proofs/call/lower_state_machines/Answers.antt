use Rattle.std.proofs.Common.{sym, ◌∙◌}
use Rattle.std.proofs.lemmas.Result.{err_from_is_err_and}
use Rattle.wire.proofs.Codes.{handed-back}
use Rattle.machine_rules.specs.Call.{lower_machines}
use Rattle.machines.proofs.ByVerdict.{opened, stopped}
use Rattle.machines.proofs.call.lower_state_machines.Goals as goal

pub returns-in_err-opened : goal.returns-in_err-opened
unfolding lower_machines
returns-in_err-opened c =
    let r = handed-back _ _ (err_from_is_err_and c.from_residual.result c.from_residual.ensures.1) in
    rw r (stopped _ _ (sym c.in_err-opened.was ∙ c.read_pack-opened.ensures.verdict_value) _ _ _).0

pub lower_checked-requires : goal.lower_checked-requires
lower_checked-requires c = opened _ (sym c.in_ok-opened.was ∙ c.read_pack-opened.ensures.verdict_value) _ c.read_pack-opened.ensures.pack_value

pub returns : goal.returns
returns c = c.lower_checked.ensures
