use Rattle.machines.proofs.OwnerLaws.{node_end_lem}
use Rattle.machines.proofs.owners.after_node.Goals as goal

pub returns : goal.returns
returns c = λ ns e. node_end_lem ns _ _ _ _ (c.to_node_equations-e.ensures ns e) (c.after_equations.ensures ns e)
