use Rattle.activations.proofs.Counting.{left_none, left_one, stopped}
use mathlib.Core.Path.{◌∙◌}
use Rattle.activations.proofs.MergeLaws.{merges-is, merges-more, merges-none}
use Rattle.activations.proofs.merges.put_merges.Goals as goal

pub loop-preserved : goal.loop-preserved
loop-preserved c = λ ns e cs f. merges-more _ ns _ _ _ cs _ _ _ _ _ _ _ _ (left_one c.loop-test.true) c.number-x.ensures c.pack_name.ensures (c.put_merge-v.ensures cs f) (c.after_port-p.ensures ns e) (c.loop.invariant ns e cs f)

pub returns-after-loop : goal.returns-after-loop
returns-after-loop c = λ ns e cs f. merges-none _ ns _ _ _ cs _ _ _ _ (left_none c.loop-test.false) (c.loop.invariant ns e cs f) ∙ merges-is _ ns _ _ _ cs _ _ _ c.number-c.ensures

pub returns-then-v : goal.returns-then-v
returns-then-v c = λ ns e cs f. stopped _ _ _ _ _ _ c.if-v.true (c.loop.invariant ns e cs f) ∙ merges-is _ ns _ _ _ cs _ _ _ c.number-c.ensures
