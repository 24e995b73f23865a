use mathlib.Core.Path.{ap, ◌∙◌}
use Rattle.wire.specs.Writer.{put}
use Rattle.pack.specs.Intern.{put_name}
use Rattle.machines.proofs.LocalLaws.{state-port}
use Rattle.machines.proofs.emit_region.put_state_port.Goals as goal

pub returns : goal.returns
returns c = c.put_enum_name.ensures ∙ ap (put_name _ _) (c.put_byte-b.ensures _ ∙ ap (put _) c.put_var-a.ensures) ∙ state-port _ _ _ _ _
