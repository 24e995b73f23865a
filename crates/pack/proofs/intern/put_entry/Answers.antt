use Rattle.std.proofs.Common.{ℕ, List, ◌++◌, drop, ap, ◌∙◌, arith, length-take}
use Rattle.wire.specs.Writer.{put, puts, swapped}
use Rattle.pack.proofs.Interns.{entry-steps, noted-is}
use Rattle.pack.proofs.intern.put_entry.Goals as goal

pub slice_bounds-note-end-2 : goal.slice_bounds-note-end-2
slice_bounds-note-end-2 c = simp length-take (omega arith)

pub returns : goal.returns
returns c o = c.turned-2.ensures _ o
    ∙ ap swapped (c.put_bytes.ensures o
    ∙ ap (puts _) (c.put_byte-a.ensures o ∙ ap (put _) (c.turned.ensures o _)))
    ∙ entry-steps _ _ _ (noted-is o c.args.made.now _ c.args.n.now c.args.writer _ c.min-end.ensures (ap (λ (l : List ℕ). l ++ drop c.min-end.result c.args.made.now) c.note.ensures))
