use native.Mathlib.Omega.{arith}
use mathlib.Core.Path.{ap, ◌∙◌}
use lib.ListN.{replicate}
use lib.Seq.{paste-zero}
use Rattle.std.proofs.lemmas.List.{places}
use Rattle.wire.proofs.Writers.{paste-turn}
use Rattle.activations.proofs.CellLaws.{copied-over}
use Rattle.activations.proofs.cells.copy.Goals as goal

pub loop-i-init : goal.loop-i-init
loop-i-init c = paste-zero _ 0 c.args.from.now

pub loop-i-preserved : goal.loop-i-preserved
loop-i-preserved c = paste-turn c.args.to.now c.args.from.now c.loop-i.to 0 c.loop-i.i c.loop-i.i (omega arith) c.loop-i.invariant (omega (arith, c.loop-i-test.true, c.min-end.ensures, c.min-known.ensures)) (omega (arith, c.loop-i-test.true, c.min-known.ensures))

pub returns : goal.returns
returns c = copied-over c.args.from.now c.args.to.now c.loop-i.to _ _ _ _ c.loop-i.i c.min-end.ensures c.min-known.ensures c.loop-i.auto.i-end c.loop-i-test.false c.loop-i.invariant (c.fill.ensures.after (λ y h. h) ∙ ap (λ k. replicate k 0) (grind (arith, places)))
