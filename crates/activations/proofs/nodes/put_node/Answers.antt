use Rattle.activations.proofs.NodesWritten.{node-is}
use Rattle.activations.proofs.nodes.put_node.Goals as goal

pub returns : goal.returns
returns c = λ ns es N As m B R D L M C. node-is _ _ _ _ _ (c.put_head-c.ensures ns es N As m B R D L M C) (c.put_tail.ensures ns es N As m B R D L M C)
