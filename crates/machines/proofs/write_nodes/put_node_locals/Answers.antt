use Rattle.machines.proofs.NodeHeadLaws.{node-locals-put}
use Rattle.machines.proofs.write_nodes.put_node_locals.Goals as goal

pub returns : goal.returns
returns c = λ ns e. node-locals-put ns _ _ _ _ _ _ _ _ _ _ _ _ _ _ _ _ _ _ c.small-o.ensures.1 (c.added_locals-m.ensures.1 ns e) c.between-h.ensures (c.put_u16-a.ensures _) (c.put_bytes-b.ensures _) (c.put_all_locals.ensures ns e)
