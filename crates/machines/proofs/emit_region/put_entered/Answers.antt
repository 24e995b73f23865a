use mathlib.Core.Path.{ap, ◌∙◌}
use Rattle.wire.specs.Writer.{puts}
use Rattle.pack.specs.Intern.{render}
use Rattle.machines.proofs.TermLaws.{entered-term}
use Rattle.machines.proofs.emit_region.put_entered.Goals as goal

pub returns : goal.returns
returns c = c.put_variable.ensures ∙ ap (render _ _) (c.put_bytes-c.ensures _ ∙ ap (puts _) (c.put_variable-b.ensures ∙ ap (render _ _) (c.put_bytes-a.ensures _))) ∙ entered-term _ _ _
