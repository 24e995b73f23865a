use Rattle.std.proofs.Common.{◌≡◌, [], ◌++◌, length, refl, ap, ◌∙◌, append_assoc, arith, length-append}
use Rattle.wire.specs.Bytes.{two}
use Rattle.pack_rules.specs.Outcome.{begins}
use Rattle.pack.proofs.Finished.{begins-more, begins-none}
use Rattle.pack.proofs.finish.concat.Goals as goal

pub returns : goal.returns
unfolding two
returns c = let s3 = c in
    let s2 = s3 in
    let s1 = s2 in
    let a = s1.args in
    let h = two a.count in
    let d = a.dst.now in
    let old = a.old.now in
    let made = a.made.now in
    let e1 = begins-more d _ [] h d 0 refl (begins-none d) s1.append-h.ensures.dst_after in
    let e2 = begins-more _ _ h old d _ (omega (arith, s1.append-h.ensures.value)) e1 s2.append-i.ensures.dst_after in
    let i : length (h ++ old) ≡ s2.append-i.result = rw length-append (omega (arith, s1.append-h.ensures.value, s2.append-i.ensures.value)) in
    let e3 = begins-more _ _ (h ++ old) made d _ i e2 s3.append-j.ensures.dst_after in
    let j : length ((h ++ old) ++ made) ≡ s3.append-j.result = rw length-append (omega (arith, i, s3.append-j.ensures.value)) in
    let e4 = begins-more _ _ ((h ++ old) ++ made) a.body.now d _ j e3 c.append.ensures.dst_after in
    e4 ∙ ap (λ l. begins l d) (simp append_assoc)
