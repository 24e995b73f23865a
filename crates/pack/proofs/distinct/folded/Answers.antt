use Rattle.std.proofs.Common.{refl}
use Rattle.pack.specs.Distinct.{folded}
use Rattle.pack.proofs.distinct.folded.Goals as goal

pub returns : goal.returns
unfolding folded
returns c = refl
