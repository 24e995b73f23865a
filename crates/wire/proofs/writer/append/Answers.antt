use native.Mathlib.Omega.{arith}
use mathlib.Core.Path.{◌≡◌, refl}
use lib.ListN.{length}
use lib.Seq.{paste-zero}
use Rattle.wire.proofs.Writers.{paste-turn, paste-whole}
use Rattle.wire.proofs.writer.append.Goals as goal

pub loop-j-init : goal.loop-j-init
loop-j-init c = paste-zero _ c.args.at c.args.src.now

pub loop-j-preserved : goal.loop-j-preserved
loop-j-preserved c = paste-turn _ _ _ _ _ _ refl c.loop-j.invariant (omega (arith, c.loop-j-test.true)) c.loop-j-test.true

pub returns-clause-dst_after : goal.returns-clause-dst_after
returns-clause-dst_after c = let a = c.args in
    let past : c.loop-j.j ≡ length a.src.now = omega (arith, c.loop-j-test.false, c.loop-j.auto.j-end) in
    paste-whole a.dst.now a.src.now _ a.at c.loop-j.j past c.loop-j.invariant
