use Rattle.activations.proofs.Counting.{stopped}
use native.Mathlib.Omega.{arith}
use Rattle.activations.proofs.ClockLaws.{under_more, under_none}
use Rattle.activations.proofs.flags.put_under.Goals as goal

pub loop-k-preserved : goal.loop-k-preserved
loop-k-preserved c = under_more _ _ _ _ _ _ _ (omega arith) c.put_when-v.ensures c.loop-k.invariant

pub returns-after-loop-k : goal.returns-after-loop-k
returns-after-loop-k c = under_none _ _ _ _ _ (omega arith) c.loop-k.invariant

pub returns-then-v : goal.returns-then-v
returns-then-v c = stopped _ _ _ _ _ _ c.if-v.true c.loop-k.invariant
