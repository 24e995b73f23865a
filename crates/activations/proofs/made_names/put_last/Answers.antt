use mathlib.Core.List.{[]}
use mathlib.Core.Path.{ap, ◌∙◌}
use Rattle.wire.specs.Writer.{puts}
use Rattle.pack.proofs.Interns.{built_of}
use Rattle.activations.proofs.made_names.put_last.Goals as goal

pub returns : goal.returns
returns c = c.put_built.ensures ∙ built_of _ _ _ _ (c.put_last_text-t.ensures [] ∙ ap (puts _) (c.start.ensures _ []))
