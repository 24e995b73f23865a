use mathlib.Core.Path.{ap, ◌∙◌}
use Rattle.pack.specs.Intern.{render}
use Rattle.machines.proofs.TermLaws.{state-equation}
use Rattle.machines.proofs.emit_region.put_state_equation.Goals as goal

pub returns : goal.returns
returns c = c.put_state_rhs.ensures ∙ ap (render _ _) c.put_left-a.ensures ∙ state-equation _ _ _ _ _
