use Prim.Native.Nat.{◌-◌}
use mathlib.Core.List.{List}
use mathlib.Core.Path.{◌≡◌}
use lib.ListN.{length}
use Rattle.pack_rules.specs.Names.{Name}
use Rattle.machines.specs.UnknownTargets.{unknown_from, unknown_target_d}
use Rattle.machines.proofs.UnknownTargetLaws.{after}
use Rattle.machines.proofs.memo.unknown_targets.Given as goal

abbrev pub invariant-loop-fine : goal.invariant-loop-fine
invariant-loop-fine l = (ns : List Name) → length ns ≡ l.drawing.pack.names → after l.fine (unknown_from ns l.drawing.pack.bytes.now l.n l.f (l.n - l.fine) l.p) ≡ unknown_target_d ns l.drawing.pack.bytes.now l.n l.f
