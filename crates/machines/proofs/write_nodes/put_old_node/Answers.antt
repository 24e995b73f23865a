use Rattle.machines.proofs.PartsLaws.{old-node-put}
use Rattle.machines.proofs.write_nodes.put_old_node.Goals as goal

pub returns : goal.returns
returns c = λ ns e eqs h. old-node-put ns _ _ _ _ _ _ eqs _ _ _ _ _ _ _ _ _ (c.to_node_equations-e.ensures ns e) (c.after_equations-z.ensures ns e) c.number-c.ensures (c.put_old_head-a.ensures ns e) (c.put_node_equations.ensures ns e eqs h)
