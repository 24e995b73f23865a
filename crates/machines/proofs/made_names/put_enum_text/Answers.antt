use mathlib.Core.Path.{ap, ◌∙◌}
use Rattle.wire.specs.Writer.{puts}
use Rattle.machines.proofs.MadeLaws.{enum-top, enum-inner}
use Rattle.machines.proofs.made_names.put_enum_text.Goals as goal

pub returns-then-id-eq0 : goal.returns-then-id-eq0
returns-then-id-eq0 c = λ m. c.put_bytes.ensures m ∙ ap (puts _) (c.put_bytes-a.ensures m) ∙ enum-top _ _ _ c.if-id-eq0.true

pub returns : goal.returns
returns c = λ m. c.put_bytes-2.ensures m ∙ ap (puts _) (c.put_digits-c.ensures m ∙ ap (puts _) (c.put_bytes-b.ensures m ∙ ap (puts _) (c.put_bytes-a.ensures m))) ∙ enum-inner _ _ _ c.if-id-eq0.false
