use mathlib.Core.Path.{sym}
use Rattle.activations.proofs.NodesWritten.{node-copied}
use Rattle.activations.proofs.nodes.copy_node.Goals as goal

pub returns : goal.returns
returns c = λ ns es old offsets made m B R. node-copied ns _ old offsets B.pack m _ R _ _ _ _ _ (c.to_node_equations-e.ensures ns (sym B.names)) (c.after_equations-z.ensures ns (sym B.names)) c.between.ensures (c.put_bytes.ensures made)
