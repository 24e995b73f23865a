use Prim.Native.Nat.{◌-◌}
use mathlib.Core.List.{List}
use mathlib.Core.Path.{◌≡◌}
use lib.ListN.{length}
use Rattle.pack_rules.specs.Names.{Name}
use Rattle.machines.specs.UnknownTargets.{drawn_state}
use Rattle.machines.proofs.memo.is_drawn_state.Given as goal

abbrev pub invariant-loop : goal.invariant-loop
invariant-loop l = (ns : List Name) → length ns ≡ l.drawing.pack.names → drawn_state ns l.drawing.pack.bytes.now l.x (l.count - l.counter) l.p ≡ drawn_state ns l.drawing.pack.bytes.now l.x l.count l.from
