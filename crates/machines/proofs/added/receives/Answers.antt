use Rattle.machines.specs.ReceivingNodes.{goes_t}
use Rattle.machines.proofs.ReceiverLaws.{busy-done, busy-more, busy-start, goes-is}
use Rattle.machines.proofs.added.receives.Goals as goal

pub loop-i-init : goal.loop-i-init
loop-i-init c = busy-start (goes_t _) _ _ _

pub loop-i-preserved : goal.loop-i-preserved
loop-i-preserved c = busy-more (goes_t _) _ _ _ _ _ _ _ c.loop-i-test.true (goes-is _ _ _ c.entry.ensures) c.nearer-b.ensures c.loop-i.invariant

pub returns : goal.returns
returns c = busy-done (goes_t _) _ _ _ _ _ c.loop-i-test.false c.loop-i.invariant
