use Rattle.machines.proofs.CheckedReadLaws.{byte-is}
use Rattle.machines.proofs.AddedItems.{node-locals}
use Rattle.machines.proofs.write_nodes.to_node_locals.Goals as goal

pub returns : goal.returns
returns c = λ ns e. node-locals ns _ _ _ _ _ _ c.number-i.ensures (byte-is _ _ _ _ c.read_byte.ensures c.read_or_zero-k.ensures) (c.skip_two_lists.ensures ns e) c.reached.ensures
