use Rattle.machines.proofs.PartsLaws.{nodes-put}
use Rattle.machines.proofs.write_nodes.put_nodes.Goals as goal

pub returns : goal.returns
returns c = λ ns e eqs h. nodes-put ns _ _ _ _ _ _ eqs _ _ _ _ _ _ _ _ _ c.number-c.ensures c.small-o.ensures.1 c.begun-g.ensures.1 (c.put_u16-a.ensures _) (c.put_old_nodes-b.ensures ns e eqs h) (c.put_new_nodes.ensures ns e eqs h)
