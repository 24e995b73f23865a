use Prim.Native.Nat.{◌≤◌}
use mathlib.Core.Bool.{◌||◌}
use mathlib.Core.Path.{◌≡◌}
use lib.ListN.{length, drop}
use Rattle.machines.specs.Fingerprints.{among}
use Rattle.machines.proofs.duplicates.contains_half.Given as goal

abbrev pub invariant-loop-h : goal.invariant-loop-h
invariant-loop-h l = (l.h-index ≤ length l.halves) × (l.hit || among l.m (drop l.h-index l.halves) ≡ among l.m l.halves)
