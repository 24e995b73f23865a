use Rattle.machines.proofs.JudgeLaws.{checked-fine, checked-initial, checked-target}
use Rattle.machines.proofs.verdicts.judge_checked.Goals as goal

pub returns-in-Fine : goal.returns-in-Fine
returns-in-Fine c = λ ns e. checked-fine ns _ _ _ _ _ _ _ c.in-Fine.is c.number-k.ensures (c.judge_outputs.ensures ns e)

pub returns-in-Initial : goal.returns-in-Initial
returns-in-Initial c = λ ns e. checked-initial ns _ _ _ _ _ _ _ _ c.in-Initial.is c.entry.ensures c.called_in.ensures

pub returns-in-Target : goal.returns-in-Target
returns-in-Target c = λ ns e. checked-target ns _ _ _ _ _ _ _ _ _ _ c.in-Target.is c.state_called.ensures c.called_in-in-Target.ensures
