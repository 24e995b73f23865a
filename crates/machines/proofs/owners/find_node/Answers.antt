use mathlib.Core.Path.{◌∙◌}
use Rattle.machines.proofs.Remaining.{ended}
use Rattle.machines.proofs.OwnerLaws.{find-done, find-hit, find-miss, find-start}
use Rattle.machines.proofs.owners.find_node.Goals as goal

pub loop-i-init : goal.loop-i-init
loop-i-init c = find-start _ _ _

pub returns-then-cell-x : goal.returns-then-cell-x
returns-then-cell-x c = find-hit _ _ _ _ _ _ c.loop-i-test.true c.cell.ensures c.if-cell-x.true c.loop-i.invariant

pub loop-i-preserved : goal.loop-i-preserved
loop-i-preserved c = find-miss _ _ _ _ _ _ c.loop-i-test.true c.cell.ensures c.if-cell-x.false c.loop-i.invariant

pub returns : goal.returns
returns c = ended c.loop-i-test.false c.loop-i.auto.i-end ∙ find-done _ _ _ _ _ c.loop-i-test.false c.loop-i.invariant
