use mathlib.Core.Path.{refl}
use Rattle.wire.specs.Writer.{state_of}
use Rattle.wire.proofs.writer.stopped.Goals as goal

pub returns : goal.returns
unfolding state_of
returns c o m = refl
