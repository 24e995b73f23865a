use Prim.Native.Nat.{◌<◌, ◌≤◌}
use native.Mathlib.Omega.{arith}
use lib.ListN.{length}
use Rattle.machines.proofs.ReceiverLaws.{next-idle}
use Rattle.activations.specs.ActTable.{goal_t}
use Rattle.activations.proofs.Splits.{among}
use Rattle.activations.proofs.NodesWritten.{node-counted, node_made, node-read, nodes-done, nodes-next}
use Rattle.activations.proofs.Counting.{stopped}
use Rattle.activations.proofs.nodes.put_nodes.Goals as goal

pub loop-k-preserved : goal.loop-k-preserved
loop-k-preserved c = (λ j l q. next-idle (goal_t _) _ _ _ _ c.next_receiver-next.ensures c.loop-k.invariant.0 j l (omega (arith, q)), λ ns es N As f S B. let z : c.loop-k.k < length N = omega (arith, c.loop-k-test.true, S.many) in let x = among N c.loop-k.k z in nodes-next ns _ es N As f _ _ _ _ S _ _ x _ _ _ (c.put_next-v.ensures ns es N As x.it B (node-read ns _ es N As f _ _ _ _ S _ x _ c.cell-at.ensures) S.drawn S.count (node_made ns _ es N As f _ _ _ _ S _ x) (node-counted ns _ es N As f _ _ _ _ S _ x) (next-idle (goal_t _) _ _ _ _ c.next_receiver-next.ensures c.loop-k.invariant.0)) (c.loop-k.invariant.1 ns es N As f S B))

pub returns-after-loop-k : goal.returns-after-loop-k
returns-after-loop-k c = λ ns es N As B S. let f : length As ≤ 6656 = omega (arith, c.requires.2, S.count) in nodes-done ns _ es N As f _ _ _ _ S _ _ _ _ c.loop-k-test.false c.loop-k.auto.k-end (c.loop-k.invariant.1 ns es N As f S B)

pub returns-then-v : goal.returns-then-v
returns-then-v c = λ ns es N As B S. let f : length As ≤ 6656 = omega (arith, c.requires.2, S.count) in stopped _ _ _ _ _ _ c.if-v.true (c.loop-k.invariant.1 ns es N As f S B)
