use mathlib.Core.Path.{ap, ◌∙◌}
use Rattle.wire.specs.Writer.{puts}
use Rattle.activations.proofs.MadeLaws.{scoped-text}
use Rattle.activations.proofs.made_names.put_scoped.Goals as goal

pub returns : goal.returns
returns c = λ m. c.put_bytes.ensures m ∙ ap (puts _) (c.put_bytes-e.ensures m ∙ ap (puts _) (c.put_tag-d.ensures m ∙ ap (puts _) (c.put_bytes-c.ensures m ∙ ap (puts _) (c.put_start-b.ensures m)))) ∙ scoped-text _ _ _ _ _
