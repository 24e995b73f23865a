use Rattle.activations.proofs.Counting.{left_none, left_one, stopped_too}
use Rattle.activations.proofs.merges.put_merged.Goals.{else-loop-k-test, then-loop-k-test+then-v}
use mathlib.Core.Path.{◌∙◌}
use Rattle.activations.proofs.MergeLaws.{merged-more, merged-none, merged-of}
use Rattle.activations.proofs.merges.put_merged.Goals as goal

pub loop-k-preserved : goal.loop-k-preserved
loop-k-preserved c = merged-more _ _ _ _ _ _ _ _ _ (left_one c.loop-k-test.true) c.loop-k-test.true c.put_merge_head-v.ensures c.loop-k.invariant

pub returns : goal.returns
returns c = λ cs e. c.put_scope_value.ensures
    ∙ elim c.loop-k-test.branch [ else-loop-k-test w ↦ merged-none _ _ _ _ _ _ _ _ (left_none w.loop-k-test.false) c.loop-k.invariant | then-loop-k-test+then-v w ↦ stopped_too _ _ _ _ _ _ _ w.if-v.true c.loop-k.invariant ]
    ∙ merged-of _ _ _ _ cs _ e
