use Rattle.machines.specs.UnknownTargets.{IsDrawn}
use Rattle.machines.proofs.UnknownTargetLaws.{among-told}
use Rattle.machines.proofs.CheckedReadLaws.{same_again}
use Rattle.machines.proofs.memo.is_known_target.Goals as goal

pub returns-then-eq : goal.returns-then-eq
returns-then-eq c = among-told _ _ _ _ _ (same_again (IsDrawn _ _ _ _) _ _ c.if-eq.ensures c.requires)
