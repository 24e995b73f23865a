use Prim.Native.Nat.{◌<◌, ◌≤◌}
use mathlib.Core.Path.{refl}
use native.Mathlib.Omega.{arith}
use lib.ListN.{length}
use Rattle.activations.proofs.NodesJudged.{going_done, going_start, going_step, here-read}
use Rattle.activations.proofs.verdicts.judge_node.Goals as goal

pub loop-i-init : goal.loop-i-init
loop-i-init c = λ ns es N As m f D B L T. going_start ns _ es N As f _ m _ D _ T

pub loop-i-preserved : goal.loop-i-preserved
loop-i-preserved c = λ ns es N As m f D B L T. let G = c.loop-i.invariant ns es N As m f D B L T in let l : c.loop-i.i < length As = omega (arith, c.loop-i-test.true, L) in going_step ns _ es N As f _ m _ D _ l _ _ G (omega (arith, c.loop-i.auto.acts, c.requires.3)) _ _ c.judge_row.ensures.past (λ e. c.judge_row.ensures.judged e ns es _ _ B (here-read ns _ es N As f _ m _ D _ l _ _ G _ refl) G.types)

pub returns : goal.returns
returns c = λ ns es N As m B D L T. let f : length As ≤ 6656 = omega (arith, c.requires.2, L) in going_done ns _ es N As f _ m _ D _ _ _ (omega (arith, c.loop-i-test.false, L)) (c.loop-i.invariant ns es N As m f D B L T)
