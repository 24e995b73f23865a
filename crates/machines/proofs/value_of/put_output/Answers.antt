use mathlib.Core.Path.{ap, ◌∙◌}
use Rattle.wire.specs.Writer.{puts}
use Rattle.pack.specs.Intern.{render}
use Rattle.machines.proofs.ValueLaws.{output-term}
use Rattle.machines.proofs.value_of.put_output.Goals as goal

pub returns : goal.returns
returns c = record { result_after = λ ns e. c.value_of.ensures.result_after ns e ∙ ap (render _ _) (c.put_u16-b.ensures _ ∙ ap (puts _) (c.put_u16-a.ensures _)) ∙ output-term _ _ _ _ ns _ _; assigns_sound = c.value_of.ensures.assigns_sound }
