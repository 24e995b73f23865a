use native.Mathlib.Omega.{arith}
use Rattle.lower.proofs.Wrote.{second_is}
use Rattle.lower.proofs.lower_second.Goals as goal

pub returns : goal.returns
returns c = second_is _ _ _ _ _ _ _ c.row_of.result (omega arith) (omega arith) c.lower_activations.ensures.answers c.row_of.ensures.0 c.row_of.ensures.1
