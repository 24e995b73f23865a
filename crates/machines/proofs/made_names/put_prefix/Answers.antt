use mathlib.Core.Path.{ap, ◌∙◌}
use Rattle.wire.specs.Writer.{put}
use Rattle.machines.proofs.RowLaws.{prefix-none, prefix-some}
use Rattle.machines.proofs.made_names.put_prefix.Goals as goal

pub returns-then-n-eq0 : goal.returns-then-n-eq0
returns-then-n-eq0 c = λ m. prefix-none _ _ _ c.letters-n.ensures c.if-n-eq0.true

pub returns : goal.returns
returns c = λ m. c.put_byte.ensures m ∙ ap (put _) (c.put_bytes-a.ensures m) ∙ prefix-some _ _ _ c.letters-n.ensures c.if-n-eq0.false
