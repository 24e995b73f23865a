use mathlib.Core.Path.{ap, ◌∙◌}
use Rattle.pack.specs.Intern.{put_name}
use Rattle.machines.proofs.TermLaws.{var-term}
use Rattle.activations.proofs.merges.put_scope_value.Goals as goal

pub returns : goal.returns
returns c = c.put_value.ensures ∙ ap (put_name _ _) (c.put_byte-c.ensures _) ∙ var-term _ _ _
