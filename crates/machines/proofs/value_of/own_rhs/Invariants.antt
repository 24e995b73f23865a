use Prim.Native.Nat.{◌-◌}
use mathlib.Core.List.{List}
use mathlib.Core.Path.{◌≡◌}
use lib.ListN.{length}
use Rattle.pack_rules.specs.Names.{Name}
use Rattle.machines.specs.ValueAt.{side_from}
use Rattle.machines.proofs.value_of.own_rhs.Given as goal

abbrev pub invariant-loop : goal.invariant-loop
invariant-loop l = (ns : List Name) → length ns ≡ l.drawing.pack.names → side_from ns l.drawing.pack.bytes.now l.x (l.end - l.counter) l.p ≡ side_from ns l.drawing.pack.bytes.now l.x l.end l.initial.p
