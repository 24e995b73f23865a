use Rattle.machines.proofs.AddedItems.{node-equations}
use Rattle.machines.proofs.write_nodes.to_node_equations.Goals as goal

pub returns : goal.returns
returns c = λ ns e. node-equations ns _ _ _ _ (c.to_node_locals-a.ensures ns e) (c.after_ports.ensures ns e)
