use mathlib.Core.Path.{refl}
use Rattle.activations.specs.ExprNodes.{is_const}
use Rattle.activations.specs.Walks.{or_step}
use Rattle.activations.proofs.Moving.{ended, meets-fall}
use Rattle.activations.proofs.PassLaws.{node-found, node-on}
use Rattle.activations.proofs.OverSampleLaws.{const-is}
use Rattle.activations.proofs.over_samples.has_const.Goals as goal

pub loop-n-init : goal.loop-n-init
loop-n-init c = λ ns e. refl

pub returns-then-is_const : goal.returns-then-is_const
returns-then-is_const c = λ ns e. const-is ns _ _ _ _ (node-found ns _ _ is_const _ _ _ _ _ c.loop-n-test.true (c.read_expr_node-m.ensures ns e) c.is_const.ensures c.if-is_const.true (c.loop-n.invariant ns e))

pub loop-n-smaller : goal.loop-n-smaller
loop-n-smaller c = meets-fall _ _ _ _ _ _ _ _ c.loop-n-test.true c.read_expr_node-m.ensures c.open-n.ensures c.onward-p.ensures

pub loop-n-preserved : goal.loop-n-preserved
loop-n-preserved c = λ ns e. node-on ns _ _ is_const _ _ _ _ _ _ _ c.loop-n-test.true (c.read_expr_node-m.ensures ns e) c.is_const.ensures c.if-is_const.false c.open-n.ensures c.onward-p.ensures (c.loop-n.invariant ns e)

pub returns : goal.returns
returns c = λ ns e. const-is ns _ _ _ _ (ended ns _ _ (or_step is_const) _ _ _ _ c.loop-n-test.false (c.loop-n.invariant ns e))
