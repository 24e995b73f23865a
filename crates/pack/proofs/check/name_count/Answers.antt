use Rattle.pack.proofs.CheckLaws.{count-err, count-ok}
use Rattle.pack.proofs.check.name_count.Goals as goal

pub returns-in-Ok : goal.returns-in-Ok
returns-in-Ok c = count-ok _ _ c.in-Ok.ensures

pub returns-in-Err : goal.returns-in-Err
returns-in-Err c = count-err _ _ c.in-Err.ensures
