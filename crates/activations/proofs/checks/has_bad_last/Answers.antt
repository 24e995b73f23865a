use mathlib.Core.Path.{refl}
use Rattle.activations.specs.ExprNodes.{is_bad}
use Rattle.activations.proofs.Moving.{meets-fall}
use Rattle.activations.proofs.BadLastLaws.{bad-is, bad-none}
use Rattle.activations.proofs.PassLaws.{node-found, node-on}
use Rattle.activations.proofs.checks.has_bad_last.Goals as goal

pub loop-n-init : goal.loop-n-init
loop-n-init c = λ ns e. refl

pub returns-then-is_bad : goal.returns-then-is_bad
returns-then-is_bad c = λ ns e. bad-is ns _ _ _ _ (node-found ns _ _ is_bad _ _ _ _ _ c.loop-n-test.true (c.read_expr_node-m.ensures ns e) c.is_bad.ensures c.if-is_bad.true (c.loop-n.invariant ns e))

pub loop-n-smaller : goal.loop-n-smaller
loop-n-smaller c = meets-fall _ _ _ _ _ _ _ _ c.loop-n-test.true c.read_expr_node-m.ensures c.open-n.ensures c.onward-p.ensures

pub loop-n-preserved : goal.loop-n-preserved
loop-n-preserved c = λ ns e. node-on ns _ _ is_bad _ _ _ _ _ _ _ c.loop-n-test.true (c.read_expr_node-m.ensures ns e) c.is_bad.ensures c.if-is_bad.false c.open-n.ensures c.onward-p.ensures (c.loop-n.invariant ns e)

pub returns : goal.returns
returns c = λ ns e. bad-none ns _ _ _ _ _ c.loop-n-test.false (c.loop-n.invariant ns e)
