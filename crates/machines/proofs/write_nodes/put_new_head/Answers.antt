use Rattle.machines.proofs.NodeHeadLaws.{new-head-put}
use Rattle.machines.proofs.write_nodes.put_new_head.Goals as goal

pub returns : goal.returns
returns c = λ ns e. new-head-put ns _ _ _ _ _ _ _ _ _ _ _ _ _ _ _ _ _ _ c.number-m.ensures c.number-o.ensures (c.to_locals-l.ensures ns e) c.between-h.ensures (c.put_u16-a.ensures _) (c.put_byte-b.ensures _) (c.put_bytes-c.ensures _) (c.put_node_locals.ensures ns e)
