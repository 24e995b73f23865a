use mathlib.Core.Path.{ap, ◌∙◌}
use Rattle.wire.specs.Writer.{put}
use Rattle.pack.specs.Intern.{put_name}
use Rattle.activations.proofs.ClockLaws.{when-term}
use Rattle.activations.proofs.flags.put_when.Goals as goal

pub returns : goal.returns
returns c = c.put_byte.ensures _ ∙ ap (put _) (c.put_var-d.ensures ∙ ap (put_name _ _) (c.put_byte-c.ensures _)) ∙ when-term _ _ _ _ _
