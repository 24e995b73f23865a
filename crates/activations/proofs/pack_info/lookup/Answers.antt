use Rattle.activations.proofs.PackInfoLaws.{found_at, missing_at}
use Rattle.activations.proofs.pack_info.lookup.Goals as goal

pub returns-in-Ok : goal.returns-in-Ok
returns-in-Ok c = found_at _ _ _ c.in-Ok.ensures.0

pub returns-in-Err : goal.returns-in-Err
returns-in-Err c = missing_at _ _ _ c.in-Err.ensures.0
