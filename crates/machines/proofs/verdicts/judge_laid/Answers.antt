use Rattle.machines.proofs.JudgeLaws.{laid-again, laid-empty, laid-rest, laid-short}
use Rattle.machines.proofs.verdicts.judge_laid.Goals as goal

pub returns-then-entry-eq0 : goal.returns-then-entry-eq0
returns-then-entry-eq0 c = λ ns e. laid-empty ns _ _ _ _ _ _ _ c.entry.ensures c.if-entry-eq0.true

pub returns-in-Some : goal.returns-in-Some
returns-in-Some c = λ ns e. laid-again ns _ _ _ _ _ _ _ _ _ _ c.entry.ensures c.if-entry-eq0.false c.duplicate_name.ensures c.in-Some.is c.again_called.ensures

pub returns-then-qualified-letters : goal.returns-then-qualified-letters
returns-then-qualified-letters c = λ ns e. laid-short ns _ _ _ _ _ _ _ _ _ c.entry.ensures c.if-entry-eq0.false c.duplicate_name.ensures c.in_default.is c.if-qualified-letters.true c.again_called-then-qualified-letters.ensures

pub returns : goal.returns
returns c = λ ns e. laid-rest ns _ _ _ _ _ _ _ _ _ _ c.entry.ensures c.if-entry-eq0.false c.duplicate_name.ensures c.in_default.is c.if-qualified-letters.false (c.validate_region-c.ensures ns e) (c.judge_checked.ensures ns e)
