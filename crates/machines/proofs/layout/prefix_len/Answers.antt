use Rattle.machines.proofs.QualifyLaws.{lead-none, lead-some}
use Rattle.machines.proofs.layout.prefix_len.Goals as goal

pub returns-then-m-eq0 : goal.returns-then-m-eq0
returns-then-m-eq0 c = lead-none _ c.if-m-eq0.true

pub returns-else-m-eq0 : goal.returns-else-m-eq0
returns-else-m-eq0 c = lead-some _ c.if-m-eq0.false
