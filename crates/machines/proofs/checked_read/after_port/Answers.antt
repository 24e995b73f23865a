use Rattle.machines.proofs.CheckedReadLaws.{end_is}
use Rattle.pack_rules.specs.Read.{port_in}
use Rattle.machines.proofs.checked_read.after_port.Goals as goal

pub returns : goal.returns
returns c = λ ns e. end_is (port_in ns _) _ _ _ (c.skip_port.ensures ns e) c.reached.ensures
