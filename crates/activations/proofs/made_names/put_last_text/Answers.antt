use mathlib.Core.Path.{ap, ◌∙◌}
use Rattle.wire.specs.Writer.{puts}
use Rattle.activation_rules.specs.MadeNames.{last_infix}
use Rattle.activations.proofs.MadeLaws.{last-text}
use Rattle.activations.proofs.made_names.put_last_text.Goals as goal

pub returns : goal.returns
unfolding last_infix
returns c = λ m. c.put_bytes.ensures m ∙ ap (puts _) (c.put_bytes-c.ensures m ∙ ap (puts _) (c.put_start-b.ensures m)) ∙ last-text _ _ _
