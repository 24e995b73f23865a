use Prim.Native.Nat.{◌<◌, ◌≤◌}
use mathlib.Core.Path.{sym}
use native.Mathlib.Omega.{arith}
use lib.ListN.{length}
use Rattle.activations.proofs.Splits.{among}
use Rattle.activations.proofs.NodesJudged.{node-types, passing-done, passing-drawn, passing-start, passing_step}
use Rattle.activations.proofs.verdicts.judge_nodes.Goals as goal

pub loop-k-init : goal.loop-k-init
loop-k-init c = λ ns es N As f D B F L l. passing-start ns _ es N As f _ D

pub loop-k-preserved : goal.loop-k-preserved
loop-k-preserved c = λ ns es N As f D B F L l. let W = c.loop-k.invariant ns es N As f D B F L l in let z : c.loop-k.k < length N = omega (arith, c.loop-k-test.true, L) in let x = among N c.loop-k.k z in passing_step ns _ es N As f _ D _ x _ _ W (c.judge_node.ensures ns es N As x.it B (passing-drawn ns _ es N As f _ D _ _ W) l (node-types ns es _ _ _ _ B _ N F _ x _ c.cell-at.ensures _ _ (omega (arith, c.requires.4.for_types, c.loop-k.auto.later)) (c.note_variables.ensures ns (sym B.names))))

pub returns : goal.returns
returns c = λ ns es N As B F L D l U. let f : length As ≤ 6656 = omega (arith, c.requires.2, l) in let W = c.loop-k.invariant ns es N As f D B F L l in (passing-drawn ns _ es N As f _ D _ _ W, passing-done ns _ es N As f _ D _ _ (omega (arith, c.loop-k-test.false, L)) W U)
