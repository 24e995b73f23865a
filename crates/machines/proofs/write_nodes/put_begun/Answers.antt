use Prim.Native.Nat.{◌+◌}
use Rattle.machines.proofs.SpanLaws.{all_from, begun-put}
use Rattle.machines.proofs.write_nodes.put_begun.Goals as goal

pub returns : goal.returns
returns c = λ ns e eqs h. begun-put ns _ _ _ _ _ _ _ _ _ _ _ _ c.table_from-ms.ensures c.table_from-gs.ensures c.table_from-rs.ensures c.span-m.ensures.0 c.next_to-f.ensures.1 c.span-m.ensures.1 _ eqs _ _ _ _ (c.put_new_head-a.ensures ns e) (c.put_node_equations.ensures ns e (λ p. eqs (c.next_to-f.result + p)) (all_from _ _ _ _ _ _ _ eqs c.table_from-ms.ensures c.span-m.ensures.0 h))
