use Rattle.machines.proofs.PartsLaws.{new-node-put, no-new-node}
use Rattle.machines.proofs.write_nodes.put_new_node.Goals as goal

pub returns-then-o-eq0 : goal.returns-then-o-eq0
returns-then-o-eq0 c = λ ns e eqs h. new-node-put ns _ _ _ _ _ _ eqs _ _ _ _ _ _ _ c.owned-o.ensures.1 c.entry-k.ensures c.entry-at.ensures c.if-o-eq0.true (c.put_begun.ensures ns e eqs h)

pub returns : goal.returns
returns c = λ ns e eqs h. no-new-node ns _ _ _ _ _ _ eqs _ _ _ _ c.owned-o.ensures.1 c.if-o-eq0.false
