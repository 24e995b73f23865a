use Rattle.machines.proofs.PartsLaws.{node-equations-put}
use Rattle.machines.proofs.write_nodes.put_node_equations.Goals as goal

pub returns : goal.returns
returns c = λ ns e eqs h. node-equations-put ns _ _ _ _ _ _ eqs _ _ _ _ _ _ _ _ _ _ _ _ c.small-o.ensures.1 (c.added_equations-m.ensures.1 ns e) c.between-h.ensures (c.put_u16-a.ensures _) (c.put_bytes-b.ensures _) (c.put_all_equations.ensures ns e eqs h)
