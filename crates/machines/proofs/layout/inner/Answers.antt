use Rattle.machines.proofs.RowLaws.{inner-none}
use Rattle.machines.proofs.layout.inner.Goals as goal

pub returns-else-p-layout : goal.returns-else-p-layout
returns-else-p-layout c = inner-none c.args.layout.now _ _ c.if-p-layout.false
