use Rattle.std.proofs.Common.{sym, ap, ◌∙◌, arith, length-take}
use Rattle.wire.specs.Bytes.{two}
use Rattle.wire.specs.Writer.{puts}
use Rattle.pack_rules.specs.Write.{At, Missing}
use Rattle.pack.specs.Table.{number_in}
use Rattle.pack.specs.Intern.{put_added, found_of}
use Rattle.pack.proofs.Interns.{put_new-is, number_of}
use Rattle.pack.proofs.intern.put_new.Goals as goal

pub slice_bounds-seek_name-end-2 : goal.slice_bounds-seek_name-end-2
slice_bounds-seek_name-end-2 c = simp length-take (omega arith)

pub overflow_add-old : goal.overflow_add-old
unfolding found_of number_in
overflow_add-old c = omega (arith, simp length-take at (number_of _ _ _ (ap found_of c.in-Ok.is) c.seek_name.ensures.1))

pub overflow_add-old-in-Err : goal.overflow_add-old-in-Err
unfolding found_of number_in
overflow_add-old-in-Err c = omega (arith, simp length-take at (number_of _ _ _ (ap found_of c.in-Err.is) c.seek_name.ensures.1))

pub returns-in-Ok : goal.returns-in-Ok
unfolding put_added found_of
returns-in-Ok c = c.put_u16.ensures _ ∙ put_new-is _ _ _ _ _ _ (At _) c.min-end.ensures (ap found_of (sym c.in-Ok.is) ∙ c.seek_name.ensures.0)

pub returns-in-Err : goal.returns-in-Err
unfolding put_added found_of
returns-in-Err c = c.put_u16-in-Err.ensures _
    ∙ ap (puts (two _)) (c.put_entry-v.ensures _)
    ∙ put_new-is _ _ _ _ _ _ (Missing _) c.min-end.ensures (ap found_of (sym c.in-Err.is) ∙ c.seek_name.ensures.0)
