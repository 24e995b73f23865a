use Rattle.machines.proofs.AssignsMemoLaws.{mark-given, mark-not}
use Rattle.machines.proofs.cover.mark.Goals as goal

pub returns-then-given : goal.returns-then-given
returns-then-given c = mark-given _ _ c.if-given.true

pub returns-else-given : goal.returns-else-given
returns-else-given c = mark-not _ _ c.if-given.false
