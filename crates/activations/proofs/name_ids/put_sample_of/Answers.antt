use mathlib.Core.List.{[]}
use mathlib.Core.Path.{ap, ◌∙◌}
use Rattle.wire.specs.Writer.{puts}
use Rattle.pack.proofs.Interns.{built_of}
use Rattle.activations.proofs.name_ids.put_sample_of.Goals as goal

pub returns : goal.returns
returns c = c.put_built.ensures ∙ built_of _ _ _ _ (c.put_sample_text-t.ensures [] ∙ ap (puts _) (c.start.ensures _ []))
