use Prim.Native.Nat.{◌-◌, max}
use mathlib.Core.List.{List}
use mathlib.Core.Path.{◌≡◌}
use lib.ListN.{length}
use Rattle.pack_rules.specs.Names.{Name}
use Rattle.machines.specs.CheckedReads.{turns}
use Rattle.machines.specs.ResolveAt.{target_t}
use Rattle.machines.proofs.resolve.read_state_head.Given as goal

abbrev pub invariant-loop : goal.invariant-loop
invariant-loop l = (ns : List Name) → length ns ≡ l.drawing.pack.names → turns (target_t ns l.drawing.pack.bytes.now l.offsets) max (l.end - l.counter) l.p l.a ≡ turns (target_t ns l.drawing.pack.bytes.now l.offsets) max l.end l.initial.p l.initial.a
