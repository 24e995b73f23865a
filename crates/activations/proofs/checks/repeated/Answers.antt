use Rattle.activations.proofs.Counting.{left_none, left_one}
use mathlib.Core.Path.{sym, ◌∙◌}
use Rattle.activations.proofs.CheckLaws.{repeated-end, repeated-hit, repeated-on, repeated-over}
use Rattle.activations.proofs.checks.repeated.Goals as goal

pub returns-then-m-ne0 : goal.returns-then-m-ne0
returns-then-m-ne0 c = λ ns e. repeated-over ns _ _ _ _ _ _ _ e c.number-c.ensures c.clear.ensures (repeated-hit ns _ _ _ _ _ _ _ (left_one c.loop-test.true) c.number-i.ensures c.cell-m.ensures c.if-m-ne0.true (c.loop.invariant ns e))

pub loop-preserved : goal.loop-preserved
loop-preserved c = λ ns e. repeated-on ns _ _ _ _ _ _ _ _ _ (left_one c.loop-test.true) c.number-i.ensures c.cell-m.ensures c.if-m-ne0.false c.put_cell.ensures (c.after_branch-p.ensures ns e) (c.loop.invariant ns e)

pub returns : goal.returns
returns c = λ ns e. sym e ∙ repeated-over ns _ _ _ _ _ _ _ e c.number-c.ensures c.clear.ensures (repeated-end ns _ _ _ _ _ (left_none c.loop-test.false) (c.loop.invariant ns e))
