use native.Mathlib.Omega.{arith}
use mathlib.Core.Path.{refl}
use lib.ListN.{length-take}
use Rattle.pack.proofs.Written.{empty-buffers}
use Rattle.machines.proofs.CallLaws.{finished_as, names-short, tabled-as, write_as}
use Rattle.machines.proofs.call.write_all.Goals as goal

pub build_name_table-e-requires : goal.build_name_table-e-requires
build_name_table-e-requires c = (names-short _ _ _ _ c.requires.0 c.between-names.ensures, refl)

pub slice_bounds-put_sections-end : goal.slice_bounds-put_sections-end
slice_bounds-put_sections-end c = simp length-take (omega (arith, c.build_name_table-e.ensures.0))

pub returns : goal.returns
returns c = λ ns e old o eqs ens h g.
    let here = c.between-names.ensures in
    let laid = tabled-as _ _ _ c.build_name_table-e.ensures.1 here in
    let m = c.args.defs.now in
    finished_as _ _ _ old _ _ _ _ _ _ _ _ _ here laid o (c.put_sections-w.ensures ns e eqs ens (write_as old _ _ laid o _ m _ eqs h) (write_as old _ _ laid o _ m _ ens g)) empty-buffers c.finish.ensures
