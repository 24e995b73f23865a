use Rattle.machines.proofs.RowLaws.{first-none}
use Rattle.machines.proofs.layout.first.Goals as goal

pub returns-else-q-layout : goal.returns-else-q-layout
returns-else-q-layout c = first-none c.args.layout.now _ _ c.if-q-layout.false
