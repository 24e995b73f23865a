use mathlib.Core.Path.{ap, ◌∙◌}
use Rattle.pack.specs.Intern.{render}
use Rattle.machines.proofs.TermLaws.{is-term}
use Rattle.machines.proofs.emit_region.put_is.Goals as goal

pub returns : goal.returns
returns c = c.put_named.ensures ∙ ap (render _ _) (c.put_variable-b.ensures ∙ ap (render _ _) (c.put_bytes-a.ensures _)) ∙ is-term _ _ _ _
