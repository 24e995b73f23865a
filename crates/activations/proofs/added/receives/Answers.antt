use Rattle.machines.proofs.ReceiverLaws.{busy-done, busy-more}
use Rattle.activations.specs.ActTable.{goal_t}
use Rattle.activations.proofs.added.receives.Goals as goal

pub loop-i-preserved : goal.loop-i-preserved
loop-i-preserved c = busy-more (goal_t _) _ _ _ _ _ _ _ c.loop-i-test.true c.act_node-a.ensures.1 c.nearer-b.ensures c.loop-i.invariant

pub returns : goal.returns
returns c = busy-done (goal_t _) _ _ _ _ _ c.loop-i-test.false c.loop-i.invariant
