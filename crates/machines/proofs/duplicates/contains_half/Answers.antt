use native.Mathlib.Omega.{arith}
use mathlib.Core.Path.{refl}
use Rattle.machines.proofs.FingerprintLaws.{among-done, among-more}
use Rattle.machines.proofs.duplicates.contains_half.Goals as goal

pub loop-h-init : goal.loop-h-init
loop-h-init c = (omega arith, refl)

pub loop-h-preserved : goal.loop-h-preserved
loop-h-preserved c = (omega arith, among-more _ _ _ c.loop-h.hit _ c.loop-h-test.true c.loop-h.invariant.1)

pub returns : goal.returns
returns c = among-done c.args.halves.now _ _ c.loop-h.hit _ c.loop-h-test.false c.loop-h.invariant.1
