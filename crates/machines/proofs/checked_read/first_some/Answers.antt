use Rattle.machines.proofs.CheckedReadLaws.{some_first, some-second}
use Rattle.machines.proofs.checked_read.first_some.Goals as goal

pub returns-then-a-eq0 : goal.returns-then-a-eq0
returns-then-a-eq0 c = some-second _ _ c.if-a-eq0.true

pub returns-else-a-eq0 : goal.returns-else-a-eq0
returns-else-a-eq0 c = some_first _ _ c.if-a-eq0.false
