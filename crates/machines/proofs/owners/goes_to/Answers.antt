use Rattle.machines.proofs.OwnerLaws.{goes-alone, goes-nowhere, goes-refused, goes-there}
use Rattle.machines.proofs.owners.goes_to.Goals as goal

pub returns-then-regions-eq0 : goal.returns-then-regions-eq0
returns-then-regions-eq0 c = goes-refused _ _ _ _ c.if-regions-eq0.true

pub returns-then-o-eq-ABSENT : goal.returns-then-o-eq-ABSENT
returns-then-o-eq-ABSENT c = goes-alone _ _ _ _ c.if-regions-eq0.false c.if-o-eq-ABSENT.true

pub returns-then-k-n : goal.returns-then-k-n
returns-then-k-n c = goes-there _ _ _ _ _ c.if-regions-eq0.false c.if-o-eq-ABSENT.false c.find_node-k.ensures c.if-k-n.true

pub returns-else-k-n : goal.returns-else-k-n
returns-else-k-n c = goes-nowhere _ _ _ _ _ c.if-regions-eq0.false c.if-o-eq-ABSENT.false c.find_node-k.ensures c.if-k-n.false
