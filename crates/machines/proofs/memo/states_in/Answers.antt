use Rattle.machines.proofs.StateEnds.{region-states, region-stops}
use Rattle.machines.proofs.memo.states_in.Goals as goal

pub returns-in-Err : goal.returns-in-Err
returns-in-Err c = λ ns e levels l. region-stops ns _ levels _ _ l (c.in-Err.ensures ns e)

pub returns-in-Ok : goal.returns-in-Ok
returns-in-Ok c = λ ns e levels l. region-states ns _ levels _ _ _ _ l (c.skip_region_head.ensures ns e) c.in-Ok.is c.number.ensures
