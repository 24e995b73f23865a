use mathlib.Core.Path.{ap, ◌∙◌}
use Rattle.pack.specs.Intern.{render}
use Rattle.machines.proofs.RegionLaws.{region-term}
use Rattle.machines.proofs.emit_region.emit_region.Goals as goal

pub returns : goal.returns
returns c = λ ns e. c.put_next_equation.ensures ns e ∙ ap (render _ _) (c.put_state-b.ensures ∙ ap (render _ _) c.put_active-a.ensures) ∙ region-term _ _ _ _ _ ns _ _
