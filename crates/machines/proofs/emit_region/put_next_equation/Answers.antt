use mathlib.Core.Path.{ap, ◌∙◌}
use Rattle.pack.specs.Intern.{render}
use Rattle.machines.proofs.RegionLaws.{next-equation}
use Rattle.machines.proofs.emit_region.put_next_equation.Goals as goal

pub returns : goal.returns
returns c = λ ns e. c.put_next_rhs.ensures ns e ∙ ap (render _ _) c.put_left-a.ensures ∙ next-equation _ _ _ _ _ ns _ _ _ c.layout_word-id.ensures
