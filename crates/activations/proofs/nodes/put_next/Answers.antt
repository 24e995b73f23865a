use Rattle.activations.proofs.NodesWritten.{idle-put}
use Rattle.activations.proofs.nodes.put_next.Goals as goal

pub returns-then-k-next : goal.returns-then-k-next
returns-then-k-next c = λ ns es N As m B R D L M C I. idle-put ns _ es N As _ _ _ _ m _ _ _ D L I c.if-k-next.true (c.copy_node.ensures ns es _ _ _ m B R)

pub returns : goal.returns
returns c = λ ns es N As m B R D L M C I. c.put_node.ensures ns es N As m B R D L M C
