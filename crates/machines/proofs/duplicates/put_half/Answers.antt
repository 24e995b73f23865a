use mathlib.Core.Path.{sym}
use lib.Seq.{set_out}
use Rattle.machines.proofs.duplicates.put_half.Goals as goal

pub returns-else-k-halves : goal.returns-else-k-halves
returns-else-k-halves c = sym (set_out _ _ _ c.if-k-halves.false)
