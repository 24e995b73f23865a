use mathlib.Core.Path.{ap, ◌∙◌}
use Rattle.pack.specs.Intern.{render}
use Rattle.machines.proofs.TermLaws.{active-equation}
use Rattle.machines.proofs.emit_region.put_active_equation.Goals as goal

pub returns : goal.returns
returns c = c.put_active_in.ensures ∙ ap (render _ _) c.put_left-a.ensures ∙ active-equation _ _ _ _ _ _
