use mathlib.Core.Path.{◌∙◌, ap}
use Rattle.wire.specs.Writer.{put}
use Rattle.wire.proofs.Writers.{puts-two}
use Rattle.wire.proofs.writer.put_u16.Goals as goal

pub returns : goal.returns
returns c m = c.put_byte.ensures m
    ∙ ap (put _) (c.put_byte-a.ensures m)
    ∙ puts-two _ _
