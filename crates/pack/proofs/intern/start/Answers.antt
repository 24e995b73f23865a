use Rattle.std.proofs.Common.{refl}
use Rattle.wire.specs.Writer.{state_of}
use Rattle.pack.specs.Table.{texts_from}
use Rattle.pack.specs.Intern.{started}
use Rattle.pack.proofs.intern.start.Goals as goal

pub returns : goal.returns
unfolding state_of started texts_from
returns c o m = refl
