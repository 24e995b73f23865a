use Prim.Native.Nat.{◌≤◌, ◌-◌}
use mathlib.Core.Path.{◌≡◌}
use lib.ListN.{length}
use Rattle.machines.specs.Duplicates.{duplicate_at, first_again}
use Rattle.machines.specs.Fingerprints.{high_of, low_of}
use Rattle.machines.proofs.FingerprintLaws.{Kept}
use Rattle.machines.proofs.duplicates.first_duplicate.Given as goal

abbrev pub invariant-loop-at : goal.invariant-loop-at
invariant-loop-at l = (l.at ≤ length l.t) × (l.k ≤ l.at) × (first_again (length l.t - l.at) l.t l.at ≡ duplicate_at l.t) × Kept low_of l.t l.at l.k l.lows × Kept high_of l.t l.at l.k l.highs

abbrev pub decreases-loop-at : goal.decreases-loop-at
decreases-loop-at l = length l.t - l.at
