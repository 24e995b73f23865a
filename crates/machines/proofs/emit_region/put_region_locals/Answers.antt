use mathlib.Core.Path.{ap, ◌∙◌}
use Rattle.pack.specs.Intern.{render}
use Rattle.machines.proofs.LocalLaws.{region-locals}
use Rattle.machines.proofs.emit_region.put_region_locals.Goals as goal

pub returns : goal.returns
returns c = c.put_state_port.ensures ∙ ap (render _ _) c.put_state_port-a.ensures ∙ region-locals _ _ _ _
