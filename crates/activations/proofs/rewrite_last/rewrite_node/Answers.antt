use borrow.Enum.Refused.{opened as unsealed}
use Rattle.activations.proofs.RewriteLastLaws.{met-copied, met-held}
use Rattle.activations.proofs.rewrite_last.rewrite_node.Goals as goal

pub returns-in_default : goal.returns-in_default
returns-in_default c = met-copied _ _ _ _ _ _ _ _ _ _ (unsealed c.in_default.in_default-own.keys2) c.onward-q.ensures c.between-h.ensures (c.put_bytes.ensures _)

pub returns : goal.returns
returns c = met-held _ _ _ _ _ _ _ _ _ _ _ _ _ c.in-Last.is c.pack_name-v.ensures (c.put_byte-c.ensures _) c.put_last.ensures
