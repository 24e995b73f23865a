use native.Mathlib.Omega.{arith}
use Rattle.machines.proofs.AddedLaws.{made-is}
use Rattle.machines.proofs.added.made_count.Goals as goal

pub returns : goal.returns
returns c = (omega (arith, c.inner_count-k.ensures.0, c.small-n.ensures.0), made-is _ _ _ _ c.inner_count-k.ensures.1 c.small-n.ensures.1)
