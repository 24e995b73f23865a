use Rattle.activations.proofs.Counting.{left_none, left_one}
use native.Mathlib.Omega.{arith}
use Rattle.activations.proofs.NameIdLaws.{row-end, row-found, row_is, row_on}
use Rattle.activations.proofs.name_ids.last_id.Goals as goal

pub returns-then-cell-v : goal.returns-then-cell-v
returns-then-cell-v c = row_is _ _ _ _ (row-found _ _ _ _ _ _ _ (left_one c.loop-row-test.true) c.cell.ensures c.if-cell-v.true c.cell-then-cell-v.ensures c.loop-row.invariant)

pub loop-row-preserved : goal.loop-row-preserved
loop-row-preserved c = row_on _ _ _ _ _ _ (left_one c.loop-row-test.true) (omega arith) c.cell.ensures c.if-cell-v.false c.loop-row.invariant

pub returns : goal.returns
returns c = row-end _ _ _ _ _ (left_none c.loop-row-test.false) c.loop-row.invariant
