use mathlib.Core.Path.{sym}
use native.Mathlib.Omega.{arith}
use lib.Seq.{length-take-le}
use Rattle.lower.proofs.Wrote.{alone, both, within}
use Rattle.lower.proofs.lower_both.Goals as goal

pub slice_bounds-output-end : goal.slice_bounds-output-end
slice_bounds-output-end c = let w = within _ _ _ _ _ (omega arith) (omega arith) c.in-Ok.n c.in-Ok.ensures in omega arith

pub slice_bounds-lower_second-end : goal.slice_bounds-lower_second-end
slice_bounds-lower_second-end c = let w = within _ _ _ _ _ (omega arith) (omega arith) c.in-Ok.n c.in-Ok.ensures in
    sym (length-take-le _ _ (omega arith))

pub returns-in-Err : goal.returns-in-Err
returns-in-Err c = let e = rw c.in-Err.is at c.row_of.ensures in
    alone _ _ _ _ _ (omega arith) (omega arith) _ c.in-Err.ensures c.row_of.result e.0 e.1

pub returns-in-Ok : goal.returns-in-Ok
returns-in-Ok c = both _ _ _ _ _ (omega arith) (omega arith) c.in-Ok.n c.in-Ok.ensures c.row_of-in-Ok.result c.row_of-in-Ok.ensures.0 c.row_of-in-Ok.ensures.1 c.lower_second.result c.lower_second.ensures
