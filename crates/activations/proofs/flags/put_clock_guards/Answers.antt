use Rattle.activations.proofs.Counting.{left_none, left_one, stopped}
use mathlib.Core.Path.{◌∙◌}
use Rattle.activations.proofs.GuardLaws.{guards_more, guards_none, guards-of}
use Rattle.activations.proofs.flags.put_clock_guards.Goals as goal

pub loop-k-preserved : goal.loop-k-preserved
loop-k-preserved c = guards_more _ _ _ _ _ _ _ (left_one c.loop-k-test.true) c.put_clock_guard-v.ensures c.loop-k.invariant

pub returns-after-loop-k : goal.returns-after-loop-k
returns-after-loop-k c = λ cs e. guards_none _ _ _ _ _ _ (left_none c.loop-k-test.false) c.loop-k.invariant ∙ guards-of _ _ _ cs _ e

pub returns-then-v : goal.returns-then-v
returns-then-v c = λ cs e. stopped _ _ _ _ _ _ c.if-v.true c.loop-k.invariant ∙ guards-of _ _ _ cs _ e
