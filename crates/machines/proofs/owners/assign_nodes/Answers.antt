use native.Mathlib.Omega.{arith}
use Rattle.machines.proofs.OwnerLaws.{settle-done, settle-more, settle-start}
use Rattle.machines.proofs.owners.assign_nodes.Goals as goal

pub loop-i-init : goal.loop-i-init
loop-i-init c = (omega arith, settle-start _ _ _ _ _)

pub assign_node-n-requires : goal.assign_node-n-requires
assign_node-n-requires c = omega (arith, c.loop-i.invariant.0, c.loop-i-test.true, c.requires.0, c.requires.1)

pub loop-i-preserved : goal.loop-i-preserved
loop-i-preserved c = (omega (arith, c.assign_node-n.ensures.0, c.loop-i.invariant.0), settle-more _ _ _ _ _ _ _ _ c.loop-i-test.true c.assign_node-n.ensures.1 c.loop-i.invariant.1)

pub returns : goal.returns
returns c = settle-done _ _ _ _ _ _ _ c.loop-i-test.false c.loop-i.invariant.1
