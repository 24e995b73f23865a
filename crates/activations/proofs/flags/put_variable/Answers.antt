use mathlib.Core.Path.{ap, ◌∙◌}
use Rattle.pack.specs.Intern.{put_name}
use Rattle.machines.proofs.TermLaws.{var-term}
use Rattle.activations.proofs.flags.put_variable.Goals as goal

pub returns : goal.returns
returns c = c.put_var.ensures ∙ ap (put_name _ _) (c.put_byte-c.ensures _) ∙ var-term _ _ _
