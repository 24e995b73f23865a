use Rattle.machines.proofs.CheckedReadLaws.{end_is}
use Rattle.pack_rules.specs.Read.{equation_in}
use Rattle.machines.proofs.checked_read.after_equation.Goals as goal

pub returns : goal.returns
returns c = λ ns e. end_is (equation_in ns _) _ _ _ (c.skip_equation.ensures ns e) c.reached.ensures
