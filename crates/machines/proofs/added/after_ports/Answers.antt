use Rattle.pack_rules.specs.Read.{ports_in}
use Rattle.machines.proofs.CheckedReadLaws.{end_is}
use Rattle.machines.proofs.added.after_ports.Goals as goal

pub returns : goal.returns
returns c = λ ns e. end_is (ports_in ns _) _ _ _ (c.skip_ports.ensures ns e) c.reached.ensures
