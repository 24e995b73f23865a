use mathlib.Core.Path.{ap, ◌∙◌}
use Rattle.wire.specs.Writer.{put}
use Rattle.pack.specs.Intern.{render}
use Rattle.machines.proofs.TermLaws.{held-term}
use Rattle.machines.proofs.emit_region.put_previous_next.Goals as goal

pub returns : goal.returns
returns c = c.put_variable.ensures ∙ ap (render _ _) (c.put_byte-c.ensures _ ∙ ap (put _) (c.put_named-b.ensures ∙ ap (render _ _) (c.put_byte-a.ensures _))) ∙ held-term _ _ _ _
