use borrow.Enum.Refused.{opened as unsealed}
use Rattle.activations.proofs.OverSampleLaws.{pin-const, pin-other}
use Rattle.activations.proofs.over_samples.put_node_sampled.Goals as goal

pub returns-in_default : goal.returns-in_default
returns-in_default c = pin-other _ _ _ _ _ _ _ _ _ _ (unsealed c.in_default.in_default-own.keys2) c.rewrite_node.ensures

pub returns : goal.returns
returns c = pin-const _ _ _ _ _ _ _ _ _ _ _ _ _ c.in-Const.is c.between-h.ensures c.put_onto-c.ensures (c.put_bytes.ensures _)
