use Rattle.machines.proofs.JudgeLaws.{again-far, again-near}
use Rattle.machines.proofs.verdicts.again_called.Goals as goal

pub returns-then-d-ge4294967296 : goal.returns-then-d-ge4294967296
returns-then-d-ge4294967296 c = again-far _ _ _ c.if-d-ge4294967296.true c.no_name.ensures

pub returns : goal.returns
returns c = again-near _ _ _ c.if-d-ge4294967296.false c.byte_at-n.ensures.0
