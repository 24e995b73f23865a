use Rattle.activations.proofs.Counting.{each_on, left_none, left_one, stopped}
use Rattle.activations.specs.OriginsAt.{origin_t}
use Rattle.machines.proofs.AddedLaws.{each_none}
use Rattle.activations.proofs.sections.put_origins.Goals as goal

pub loop-i-preserved : goal.loop-i-preserved
loop-i-preserved c = λ ns e. each_on _ (origin_t ns _ _ _) _ _ _ _ _ (left_one c.loop-i-test.true) (c.put_origin-v.ensures ns e) (c.loop-i.invariant ns e)

pub returns-after-loop-i : goal.returns-after-loop-i
returns-after-loop-i c = λ ns e. each_none _ (origin_t ns _ _ _) _ _ _ _ (left_none c.loop-i-test.false) (c.loop-i.invariant ns e)

pub returns-then-v : goal.returns-then-v
returns-then-v c = λ ns e. stopped _ _ _ _ _ _ c.if-v.true (c.loop-i.invariant ns e)
