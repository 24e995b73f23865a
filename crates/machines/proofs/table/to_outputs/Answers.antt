use Rattle.machines.proofs.TableLaws.{outputs-is}
use Rattle.machines.proofs.table.to_outputs.Goals as goal

pub returns : goal.returns
returns c = λ ns e. outputs-is ns _ _ _ _ (c.skip_inputs.ensures ns e) c.reached.ensures
