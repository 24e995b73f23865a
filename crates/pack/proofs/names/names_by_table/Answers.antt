use Rattle.std.proofs.Common.{◌≡◌, true, false, sym, ◌∙◌, arith, length-take}
use Rattle.pack.proofs.Prefix.{names-ahead}
use Rattle.pack.proofs.names.names_by_table.Goals as goal

pub slice_bounds-names_by_scan-end : goal.slice_bounds-names_by_scan-end
slice_bounds-names_by_scan-end c = simp length-take (omega (arith, c.min-m.ensures))

pub returns-then-ne : goal.returns-then-ne
returns-then-ne c = names-ahead c.args.pack.now c.min-m.result _ _ _ (λ e. let z : true ≡ false = sym c.if-ne.true ∙ (rw e at c.ne.ensures) in cc) c.names_by_scan-r.ensures
