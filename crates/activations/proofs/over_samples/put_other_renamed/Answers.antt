use borrow.Enum.Refused.{opened as unsealed}
use Rattle.activations.proofs.OverSampleLaws.{other-clock, other-copied, other-var}
use Rattle.activations.proofs.over_samples.put_other_renamed.Goals as goal

pub returns-in-Var : goal.returns-in-Var
returns-in-Var c = other-var _ _ _ _ _ _ _ _ _ _ _ _ _ _ _ c.in-Var.is c.put_renamed_var.ensures

pub returns-in-Clocked : goal.returns-in-Clocked
returns-in-Clocked c = other-clock _ _ _ _ _ _ _ _ _ _ _ _ _ _ _ _ _ _ c.in-Clocked.is c.onward-q.ensures c.between-h.ensures c.put_clocked.ensures

pub returns-in_default : goal.returns-in_default
returns-in_default c = other-copied _ _ _ _ _ _ _ _ _ _ _ _ _ _ _ (unsealed c.in_default.in_default-own.keys3) c.onward-q.ensures c.between-h.ensures (c.put_bytes.ensures _)
