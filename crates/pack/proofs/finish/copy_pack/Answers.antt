use Rattle.std.proofs.Common.{[], length, refl}
use Rattle.pack.proofs.Finished.{begins-more, begins-none, gives-answers, gives-writes, sized-nine, sized-zero}
use Rattle.pack.proofs.finish.copy_pack.Goals as goal

pub returns-then-out-pack : goal.returns-then-out-pack
returns-then-out-pack c = let a = c.args in
    gives-answers _ 9 _ a.out.now (sized-nine a.pack.now (length a.out.now) c.requires c.if-out-pack.true)

pub returns : goal.returns
returns c = let d = c in
    let a = d.args in
    gives-writes _ a.pack.now _ a.out.now _ (sized-zero a.pack.now (length a.out.now) d.requires c.if-out-pack.false) refl
    (begins-more a.out.now _ [] a.pack.now a.out.now 0 refl (begins-none a.out.now) c.append.ensures.dst_after)
