use Rattle.machines.proofs.ReceiverLaws.{asked-all, asked-none}
use Rattle.machines.proofs.added.asked.Goals as goal

pub returns-then-k-b : goal.returns-then-k-b
returns-then-k-b c = asked-none _ _ _ c.if-k-b.true

pub returns-else-k-b : goal.returns-else-k-b
returns-else-k-b c = asked-all _ _ _ c.if-k-b.false
