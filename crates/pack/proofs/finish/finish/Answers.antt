use Rattle.std.proofs.Common.{length, arith, length-take}
use Rattle.pack.specs.Table.{texts_from}
use Rattle.pack.proofs.Finished.{answered-full, answered-part, gives-answers, carried}
use Rattle.pack.proofs.finish.finish.Goals as goal

pub returns-then-writer : goal.returns-then-writer
returns-then-writer c = let a = c.args in
    gives-answers _ 8 0 a.out.now (answered-full (length a.out.now) a.old.now a.body.now a.made.now a.writer c.if-writer.true)

pub slice_bounds-copy_out-end-2 : goal.slice_bounds-copy_out-end-2
slice_bounds-copy_out-end-2 c = simp length-take (omega arith)

pub returns : goal.returns
unfolding texts_from
returns c = let a = c.args in
    carried _ _ _ _ _ _
    (answered-part (length a.out.now) a.old.now a.body.now a.made.now a.writer _ _ _ c.if-writer.false c.min-m.ensures c.min-n.ensures c.min-b.ensures)
    c.copy_out.ensures
