use native.Mathlib.Omega.{arith}
use mathlib.Core.Path.{refl, ◌∙◌}
use Rattle.activations.proofs.Moving.{meets-fall}
use Rattle.activations.proofs.ReadLaws.{reads-done, reads_on}
use Rattle.activations.proofs.free_vars.list_reads.Goals as goal

pub loop-n-init : goal.loop-n-init
loop-n-init c = (refl, omega arith, λ ns e. refl)

pub loop-n-smaller : goal.loop-n-smaller
loop-n-smaller c = meets-fall _ _ _ _ _ _ _ _ c.loop-n-test.true c.read_expr_node-m.ensures c.open-n.ensures c.onward-p.ensures

pub loop-n-preserved : goal.loop-n-preserved
loop-n-preserved c = (c.note-r.auto.t ∙ c.loop-n.invariant.0, c.note-r.ensures.0, λ ns e. reads_on _ _ _ _ _ ns _ _ _ _ _ _ _ _ _ _ _ c.loop-n-test.true (c.read_expr_node-m.ensures ns e) c.read_by-x.ensures c.note-r.ensures.1 c.open-n.ensures c.onward-p.ensures (c.loop-n.invariant.2 ns e))

pub returns : goal.returns
returns c = (c.loop-n.invariant.1, λ ns e. reads-done _ _ _ _ _ ns _ _ _ _ _ _ c.loop-n-test.false (c.loop-n.invariant.2 ns e))
