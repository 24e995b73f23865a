use Rattle.machines.proofs.TableLaws.{initial-is}
use Rattle.machines.proofs.table.to_initial.Goals as goal

pub returns : goal.returns
returns c = λ ns e. initial-is ns _ _ _ _ (c.skip_interface.ensures ns e) c.reached.ensures
