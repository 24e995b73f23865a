use Rattle.machines.proofs.ReportingLaws.{letters-again, letters-owner, refusal-again, refusal-owner}
use Rattle.machines.proofs.report.refusal_of.Goals as goal

pub returns-then-g-eq0 : goal.returns-then-g-eq0
returns-then-g-eq0 c = record { value = λ ns e. refusal-again ns _ _ _ _ _ _ _ _ _ _ _ c.entry-at.ensures c.entry-g.ensures _ c.if-g-eq0.true (c.judge.ensures.value ns e); qualified_after = λ ns e. letters-again ns _ _ _ _ _ _ _ _ _ _ _ c.entry-at.ensures c.entry-g.ensures _ c.if-g-eq0.true (c.judge.ensures.qualified_after ns e) }

pub returns : goal.returns
returns c = record { value = λ ns e. refusal-owner ns _ _ _ _ _ _ _ _ _ _ _ c.entry-at.ensures c.entry-g.ensures _ _ c.if-g-eq0.false c.number-m.ensures c.number-o.ensures; qualified_after = λ ns e. letters-owner ns _ _ _ _ _ _ _ _ _ _ _ c.entry-at.ensures c.entry-g.ensures c.if-g-eq0.false }
