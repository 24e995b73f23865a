use mathlib.Core.Path.{sym}
use lib.Seq.{set_out}
use Rattle.machines.proofs.table.put.Goals as goal

pub returns-else-i-layout : goal.returns-else-i-layout
returns-else-i-layout c = sym (set_out _ _ _ c.if-i-layout.false)
