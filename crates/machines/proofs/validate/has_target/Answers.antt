use Rattle.machines.specs.ValidateAt.{Has}
use Rattle.machines.proofs.ValidateLaws.{has-told}
use Rattle.machines.proofs.CheckedReadLaws.{same_again}
use Rattle.machines.proofs.validate.has_target.Goals as goal

pub returns-then-eq : goal.returns-then-eq
returns-then-eq c = has-told _ _ _ _ (same_again (Has _ _ _) _ _ c.if-eq.ensures c.requires)
