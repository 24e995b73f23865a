use Rattle.std.proofs.Common.{refl}
use Rattle.pack.specs.Siphash.{turned}
use Rattle.pack.proofs.siphash.rotate_left.Goals as goal

pub returns : goal.returns
unfolding turned
returns c = refl
