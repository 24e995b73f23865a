use mathlib.Core.Path.{ap, ◌∙◌}
use Rattle.wire.specs.Writer.{puts}
use Rattle.pack.specs.Intern.{render}
use Rattle.activations.proofs.MergeLaws.{merge-term}
use Rattle.activations.proofs.merges.put_merge.Goals as goal

pub returns : goal.returns
returns c = λ cs e. c.put_merged.ensures cs e ∙ ap (render _ _) (c.put_u16-d.ensures _ ∙ ap (puts _) (c.put_u16-c.ensures _)) ∙ merge-term _ _ _ _ cs _
