use mathlib.Core.Path.{refl, ◌∙◌}
use Rattle.activations.specs.RewriteLastAt.{met_items}
use Rattle.activations.proofs.Moving.{meets-fall}
use Rattle.activations.proofs.RewriteLastLaws.{unlast-done}
use Rattle.activations.proofs.PassLaws.{left-falls, write-on}
use Rattle.activations.proofs.rewrite_last.rewrite_last.Goals as goal

pub loop-n-init : goal.loop-n-init
loop-n-init c = (refl, refl, λ ns e. refl)

pub loop-n-smaller : goal.loop-n-smaller
loop-n-smaller c = left-falls _ c.rewrite_node-v.result _ _ _ _ _ c.loop-n-test.true c.remaining-n.ensures (meets-fall _ _ _ _ _ _ _ _ c.loop-n-test.true c.read_expr_node-m.ensures c.open.ensures c.onward-p.ensures)

pub loop-n-preserved : goal.loop-n-preserved
loop-n-preserved c = (c.rewrite_node-v.auto.out ∙ c.loop-n.invariant.0, c.rewrite_node-v.auto.made ∙ c.loop-n.invariant.1, λ ns e. write-on ns _ _ _ (met_items _ _ _) _ _ _ _ _ _ _ _ c.rewrite_node-v.result _ _ c.loop-n-test.true (c.read_expr_node-m.ensures ns e) c.rewrite_node-v.ensures c.open.ensures c.remaining-n.ensures c.onward-p.ensures (c.loop-n.invariant.2 ns e))

pub returns : goal.returns
returns c = λ ns e. unlast-done _ _ _ _ ns _ _ _ _ _ _ c.loop-n-test.false (c.loop-n.invariant.2 ns e)
