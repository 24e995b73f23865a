use mathlib.Core.Path.{ap, ◌∙◌}
use Rattle.wire.specs.Writer.{put}
use Rattle.machines.proofs.LocalLaws.{active-port}
use Rattle.machines.proofs.emit_region.put_active_port.Goals as goal

pub returns : goal.returns
returns c = c.put_byte.ensures _ ∙ ap (put _) c.put_var-a.ensures ∙ active-port _ _ _
