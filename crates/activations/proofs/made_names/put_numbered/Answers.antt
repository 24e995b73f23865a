use mathlib.Core.Path.{ap, ◌∙◌}
use Rattle.wire.specs.Writer.{puts}
use Rattle.activations.proofs.MadeLaws.{numbered-text}
use Rattle.activations.proofs.made_names.put_numbered.Goals as goal

pub returns : goal.returns
returns c = λ m. c.put_digits.ensures m ∙ ap (puts _) (c.put_bytes-c.ensures m ∙ ap (puts _) (c.put_start-b.ensures m)) ∙ numbered-text _ _ _ _
