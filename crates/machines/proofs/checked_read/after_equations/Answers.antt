use Rattle.machines.proofs.CheckedReadLaws.{end_is}
use Rattle.pack_rules.specs.Read.{equations_in}
use Rattle.machines.proofs.checked_read.after_equations.Goals as goal

pub returns : goal.returns
returns c = λ ns e. end_is (equations_in ns _) _ _ _ (c.skip_equations.ensures ns e) c.reached.ensures
