use mathlib.Core.Path.{refl, ◌∙◌}
use Rattle.activations.proofs.Moving.{meets-fall}
use Rattle.activations.proofs.LastLaws.{seek-done, seek-on}
use Rattle.activations.proofs.find_lasts.find_lasts.Goals as goal

pub loop-n-init : goal.loop-n-init
loop-n-init c = (refl, c.requires.1, λ ns e. refl)

pub loop-n-smaller : goal.loop-n-smaller
loop-n-smaller c = meets-fall _ _ _ _ _ _ _ _ c.loop-n-test.true c.read_expr_node-m.ensures c.open-n.ensures c.onward-p.ensures

pub loop-n-preserved : goal.loop-n-preserved
loop-n-preserved c = (c.find_in_node-c.auto.lasts ∙ c.loop-n.invariant.0, c.find_in_node-c.ensures.0, λ ns e. seek-on ns _ _ _ _ _ _ _ _ _ _ c.loop-n-test.true (c.read_expr_node-m.ensures ns e) c.find_in_node-c.ensures.1 c.open-n.ensures c.onward-p.ensures (c.loop-n.invariant.2 ns e))

pub returns : goal.returns
returns c = record { few = c.loop-n.invariant.1; rows = λ ns e. seek-done ns _ _ _ _ _ _ _ c.loop-n-test.false (c.loop-n.invariant.2 ns e) }
