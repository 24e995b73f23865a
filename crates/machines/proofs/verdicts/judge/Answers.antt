use Rattle.machines.proofs.JudgeLaws.{judged-cycle, judged-laid, judged-large, judged-unknown, letters-cycle, letters-laid, letters-large, letters-unknown}
use Rattle.machines.proofs.verdicts.judge.Goals as goal

pub returns-in-Cycle : goal.returns-in-Cycle
returns-in-Cycle c = record { value = λ ns e. judged-cycle ns _ _ _ _ _ _ _ _ _ _ c.number-m.ensures (c.to_initial-i.ensures ns e) (c.resolve_machine-w.ensures ns e) _ c.in-Cycle.is; qualified_after = λ ns e. letters-cycle ns _ _ _ _ _ _ _ _ _ _ c.number-m.ensures (c.to_initial-i.ensures ns e) (c.resolve_machine-w.ensures ns e) _ c.in-Cycle.is }

pub returns-in-Unknown : goal.returns-in-Unknown
returns-in-Unknown c = record { value = λ ns e. judged-unknown ns _ _ _ _ _ _ _ _ _ _ c.number-m.ensures (c.to_initial-i.ensures ns e) (c.resolve_machine-w.ensures ns e) _ _ c.in-Unknown.is; qualified_after = λ ns e. letters-unknown ns _ _ _ _ _ _ _ _ _ _ c.number-m.ensures (c.to_initial-i.ensures ns e) (c.resolve_machine-w.ensures ns e) _ _ c.in-Unknown.is }

pub returns-in-Large : goal.returns-in-Large
returns-in-Large c = record { value = λ ns e. judged-large ns _ _ _ _ _ _ _ _ _ _ c.number-m.ensures (c.to_initial-i.ensures ns e) (c.resolve_machine-w.ensures ns e) c.in-Large.is; qualified_after = λ ns e. letters-large ns _ _ _ _ _ _ _ _ _ _ c.number-m.ensures (c.to_initial-i.ensures ns e) (c.resolve_machine-w.ensures ns e) c.in-Large.is }

pub returns-in-Went : goal.returns-in-Went
returns-in-Went c = record { value = λ ns e. judged-laid ns _ _ _ _ _ _ _ _ _ _ c.number-m.ensures (c.to_initial-i.ensures ns e) (c.resolve_machine-w.ensures ns e) _ _ _ _ _ _ _ _ _ c.in-Went.is (c.layout_machine-l.ensures ns e) (c.to_outputs-o.ensures ns e) (c.judge_laid.ensures ns e); qualified_after = λ ns e. letters-laid ns _ _ _ _ _ _ _ _ _ _ c.number-m.ensures (c.to_initial-i.ensures ns e) (c.resolve_machine-w.ensures ns e) _ _ _ _ _ _ _ c.in-Went.is (c.layout_machine-l.ensures ns e) }
