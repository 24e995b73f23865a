use Rattle.machines.specs.WriteNodesAt.{new_node_t}
use Rattle.machines.proofs.Remaining.{one_more}
use Rattle.machines.proofs.RowLaws.{stays-full}
use Rattle.machines.proofs.AddedLaws.{each_more, each_over}
use Rattle.machines.proofs.write_nodes.put_new_nodes.Goals as goal

pub returns-then-v : goal.returns-then-v
returns-then-v c = λ ns e eqs h. stays-full _ _ _ _ _ _ c.if-v.true (c.loop-i.invariant ns e eqs h)

pub loop-i-preserved : goal.loop-i-preserved
loop-i-preserved c = λ ns e eqs h. each_more _ (new_node_t ns _ _ _ _ _ _ eqs) _ _ _ _ _ _ (one_more c.loop-i-test.true) (c.put_new_node-v.ensures ns e eqs h) (c.loop-i.invariant ns e eqs h)

pub returns : goal.returns
returns c = λ ns e eqs h. each_over _ (new_node_t ns _ _ _ _ _ _ eqs) _ _ _ _ c.loop-i-test.false (c.loop-i.invariant ns e eqs h)
