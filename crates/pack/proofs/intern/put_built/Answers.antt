use Rattle.std.proofs.Common.{◌∙◌, arith, length-take}
use Rattle.pack.proofs.Interns.{built-full, built-part}
use Rattle.pack.proofs.intern.put_built.Goals as goal

pub returns-then-v : goal.returns-then-v
returns-then-v c = c.stopped.ensures _ _ ∙ built-full _ _ _ _ c.if-v.true

pub slice_bounds-put_name-end : goal.slice_bounds-put_name-end
slice_bounds-put_name-end c = simp length-take (omega arith)

pub returns : goal.returns
returns c = let d = c in
    d.put_name.ensures ∙ built-part _ _ _ _ _ d.if-v.false d.min-end.ensures
