use Rattle.std.proofs.Common.{◌≡◌, true, false, sym, ◌∙◌, arith, length-take}
use Rattle.pack.proofs.Prefix.{names-ahead}
use Rattle.pack.proofs.names.+read_names_keyed.Goals as goal

pub slice_bounds-read_names_keyed-end : goal.slice_bounds-read_names_keyed-end
slice_bounds-read_names_keyed-end t c = simp length-take (omega (arith, c.requires))

pub read_names_keyed-r-requires : goal.read_names_keyed-r-requires
read_names_keyed-r-requires t c = (omega (arith, c.decreases, c.if-part-gt0.true), omega arith)

pub returns-then-ne : goal.returns-then-ne
returns-then-ne t c = names-ahead c.args.pack.now c.args.part _ _ _ (λ e. let z : true ≡ false = sym c.if-ne.true ∙ (rw e at c.ne.ensures) in cc) c.read_names_keyed-r.ensures

pub returns-then-count-pack : goal.returns-then-count-pack
returns-then-count-pack t c = c.read_names_hashed.ensures

pub returns : goal.returns
returns t c = c.read_names_hashed-2.ensures
