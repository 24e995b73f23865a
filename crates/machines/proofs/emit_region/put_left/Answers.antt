use mathlib.Core.Path.{ap, ◌∙◌}
use Rattle.pack.specs.Intern.{put_name}
use Rattle.machines.proofs.TermLaws.{left-term}
use Rattle.machines.proofs.emit_region.put_left.Goals as goal

pub returns : goal.returns
returns c = c.put_var.ensures ∙ ap (put_name _ _) (c.put_u16-a.ensures _) ∙ left-term _ _ _
