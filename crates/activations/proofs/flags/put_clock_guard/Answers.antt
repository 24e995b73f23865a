use mathlib.Core.Path.{ap, ◌∙◌}
use Rattle.pack.specs.Intern.{render}
use Rattle.activations.proofs.GuardLaws.{guard-term}
use Rattle.activations.proofs.flags.put_clock_guard.Goals as goal

pub returns : goal.returns
returns c = c.put_variable.ensures ∙ ap (render _ _) (c.put_under-d.ensures ∙ ap (render _ _) c.put_left-c.ensures) ∙ guard-term _ _ _ _
