use Rattle.machines.proofs.ReceiverLaws.{nearer-before, nearer-less, nearer-more}
use Rattle.machines.proofs.added.nearer.Goals as goal

pub returns-then-a-k : goal.returns-then-a-k
returns-then-a-k c = nearer-before _ _ _ c.if-a-k.true

pub returns-then-a-b : goal.returns-then-a-b
returns-then-a-b c = nearer-less _ _ _ c.if-a-k.false c.if-a-b.true

pub returns-else-a-b : goal.returns-else-a-b
returns-else-a-b c = nearer-more _ _ _ c.if-a-k.false c.if-a-b.false
