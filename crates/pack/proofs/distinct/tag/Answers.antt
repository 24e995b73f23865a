use Rattle.std.proofs.Common.{refl, arith}
use Rattle.pack.specs.Distinct.{tag}
use Rattle.pack.proofs.distinct.tag.Goals as goal

pub returns : goal.returns
unfolding tag
returns c = (refl, omega arith)
