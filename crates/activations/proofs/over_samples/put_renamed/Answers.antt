use mathlib.Core.Path.{refl, ◌∙◌}
use Rattle.activations.specs.OverSamplesAt.{rename_items}
use Rattle.activations.proofs.Moving.{meets-fall}
use Rattle.activations.proofs.PassLaws.{left-falls, write-on}
use Rattle.activations.proofs.OverSampleLaws.{rename-done}
use Rattle.activations.proofs.over_samples.put_renamed.Goals as goal

pub loop-c-init : goal.loop-c-init
loop-c-init c = (refl, refl, λ ns e. refl)

pub loop-c-smaller : goal.loop-c-smaller
loop-c-smaller c = left-falls _ c.put_node_renamed-v.result _ _ _ _ _ c.loop-c-test.true c.remaining-c.ensures (meets-fall _ _ _ _ _ _ _ _ c.loop-c-test.true c.read_expr_node-m.ensures c.open.ensures c.onward-p.ensures)

pub loop-c-preserved : goal.loop-c-preserved
loop-c-preserved c = (c.put_node_renamed-v.auto.out ∙ c.loop-c.invariant.0, c.put_node_renamed-v.auto.made ∙ c.loop-c.invariant.1, λ ns e. write-on ns _ _ _ (rename_items c.args.old.now c.args.pack.now c.args.offsets.now c.args.info.names c.args.info.made c.args.a.now c.args.n c.args.k c.args.ids.now c.args.lasts.now c.args.rows) _ _ _ _ _ _ _ _ c.put_node_renamed-v.result _ _ c.loop-c-test.true (c.read_expr_node-m.ensures ns e) c.put_node_renamed-v.ensures c.open.ensures c.remaining-c.ensures c.onward-p.ensures (c.loop-c.invariant.2 ns e))

pub returns : goal.returns
returns c = λ ns e. rename-done _ _ _ _ _ _ _ _ _ _ _ ns _ _ _ _ _ _ c.loop-c-test.false (c.loop-c.invariant.2 ns e)
