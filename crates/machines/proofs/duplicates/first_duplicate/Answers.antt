use native.Mathlib.Omega.{arith}
use mathlib.Core.Path.{sym}
use lib.Seq.{length-take-le}
use Rattle.machines.specs.Fingerprints.{high_of, low_of}
use Rattle.machines.proofs.DuplicateLaws.{again-end, again-here, again-past-it, again-start}
use Rattle.machines.proofs.FingerprintLaws.{kept_more, kept-start}
use Rattle.machines.proofs.duplicates.first_duplicate.Goals as goal

pub loop-at-init : goal.loop-at-init
loop-at-init c = (omega arith, omega arith, again-start _, kept-start low_of c.args.t.now c.args.lows.now, kept-start high_of c.args.t.now c.args.highs.now)

pub overflow_cast-l : goal.overflow_cast-l
overflow_cast-l c = omega (arith, c.shared_slice_known-1.given c.loop-at.at)

pub slice_bounds-contains_marked-end : goal.slice_bounds-contains_marked-end
slice_bounds-contains_marked-end c = sym (length-take-le _ _ (omega arith))

pub contains_marked-requires : goal.contains_marked-requires
contains_marked-requires c = (c.fingerprint_of-m.ensures.0, c.fingerprint_of-m.ensures.1, (c.loop-at.invariant.3 c.loop-at-test.true).1, (c.loop-at.invariant.4 c.loop-at-test.true).1)

pub returns-then-contains_marked : goal.returns-then-contains_marked
returns-then-contains_marked c = again-here _ _ _ 0 _ _ c.loop-at-test.true c.capped-e.ensures c.contains_marked.ensures c.if-contains_marked.true c.loop-at.invariant.2

pub loop-at-preserved : goal.loop-at-preserved
loop-at-preserved c = (omega arith, omega arith, again-past-it _ _ _ 0 _ _ c.loop-at-test.true c.capped-e.ensures c.contains_marked.ensures c.if-contains_marked.false c.loop-at.invariant.2, kept_more low_of _ _ _ _ _ _ _ c.loop-at-test.true c.capped-e.ensures c.fingerprint_of-m.ensures.0 c.put_half.ensures c.loop-at.invariant.3, kept_more high_of _ _ _ _ _ _ _ c.loop-at-test.true c.capped-e.ensures c.fingerprint_of-m.ensures.1 c.put_half-in-loop-at.ensures c.loop-at.invariant.4)

pub returns : goal.returns
returns c = again-end c.args.t.now _ _ c.loop-at-test.false c.loop-at.invariant.2
