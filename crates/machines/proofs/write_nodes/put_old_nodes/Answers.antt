use native.Mathlib.Omega.{arith}
use Rattle.machines.specs.ReceivingNodes.{goes_t}
use Rattle.machines.proofs.Remaining.{none_left, one_more}
use Rattle.machines.proofs.RowLaws.{stays-full}
use Rattle.machines.proofs.ReceiverLaws.{asked-few, asked-put, next-idle}
use Rattle.machines.proofs.EmitMachineLaws.{long_kept}
use Rattle.machines.proofs.PartsLaws.{olds-more, olds-none}
use Rattle.machines.proofs.write_nodes.put_old_nodes.Goals as goal

pub returns-then-v : goal.returns-then-v
returns-then-v c = λ ns e eqs h. stays-full _ _ _ _ _ _ c.if-v.true (c.loop-k.invariant.1 ns e eqs h)

pub put_old_node-v-requires : goal.put_old_node-v-requires
put_old_node-v-requires c = (omega (arith, asked-few _ _ _ _ c.asked-m.ensures, c.requires.0), long_kept _ _ _ _ _ _ c.loop-k.auto.layout c.loop-k.auto.rows c.loop-k.auto.qualified c.requires.1)

pub loop-k-preserved : goal.loop-k-preserved
loop-k-preserved c = (λ j l q. next-idle (goes_t _) _ _ _ _ c.next_receiver-b.ensures c.loop-k.invariant.0 j l (omega (arith, q)), λ ns e eqs h. olds-more ns _ _ _ _ _ _ eqs _ _ _ _ _ _ _ _ _ _ (one_more c.loop-k-test.true) (asked-put ns _ _ _ _ _ _ _ _ _ eqs _ _ _ _ c.asked-m.ensures (next-idle (goes_t _) _ _ _ _ c.next_receiver-b.ensures c.loop-k.invariant.0) (c.put_old_node-v.ensures ns e eqs (λ i l. h i (omega (arith, l, asked-few _ _ _ _ c.asked-m.ensures))))) (c.to_node_equations-e.ensures ns e) (c.after_equations-p.ensures ns e) (c.loop-k.invariant.1 ns e eqs h))

pub returns : goal.returns
returns c = λ ns e eqs h. olds-none ns _ _ _ _ _ _ eqs _ _ _ _ _ _ (none_left c.loop-k-test.false) (c.loop-k.invariant.1 ns e eqs h)
