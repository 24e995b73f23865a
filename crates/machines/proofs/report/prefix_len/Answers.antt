use Rattle.machines.proofs.EntryLaws.{no-prefix-length, prefix-length}
use Rattle.machines.proofs.report.prefix_len.Goals as goal

pub returns-then-p-eq0 : goal.returns-then-p-eq0
returns-then-p-eq0 c = no-prefix-length _ c.if-p-eq0.true

pub returns-else-p-eq0 : goal.returns-else-p-eq0
returns-else-p-eq0 c = prefix-length _ c.if-p-eq0.false
