use Prim.Native.Nat.{◌-◌}
use mathlib.Core.List.{List}
use mathlib.Core.Path.{◌≡◌}
use lib.ListN.{length}
use Rattle.pack_rules.specs.Names.{Name}
use Rattle.machines.specs.Tables.{placed_from}
use Rattle.machines.proofs.table.place_machines.Given as goal

abbrev pub invariant-loop : goal.invariant-loop
invariant-loop l = (ns : List Name) → length ns ≡ l.drawing.pack.names → placed_from ns l.drawing.pack.bytes.now (l.end - l.counter) l.p l.machines ≡ placed_from ns l.drawing.pack.bytes.now l.end l.initial.p l.initial.machines
