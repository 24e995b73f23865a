use Rattle.std.proofs.Common.{refl}
use Rattle.pack.specs.Siphash.{lanes_for}
use Rattle.pack.proofs.siphash.lanes_for.Goals as goal

pub returns : goal.returns
unfolding lanes_for
returns c = refl
