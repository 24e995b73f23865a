use Rattle.machines.proofs.NodeHeadLaws.{old-head-put}
use Rattle.machines.proofs.write_nodes.put_old_head.Goals as goal

pub returns : goal.returns
returns c = λ ns e. old-head-put ns _ _ _ _ _ _ _ _ _ _ _ _ _ _ _ _ (c.to_node_locals-l.ensures ns e) (c.after_ports-e.ensures ns e) c.number-c.ensures c.between-h.ensures (c.put_bytes-a.ensures _) (c.put_node_locals.ensures ns e)
