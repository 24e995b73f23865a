use Prim.Native.Nat.{◌-◌}
use mathlib.Core.List.{List}
use mathlib.Core.Path.{◌≡◌}
use lib.ListN.{length}
use Rattle.pack_rules.specs.Names.{Name}
use Rattle.machines.specs.CoverAt.{uncovered_t}
use Rattle.machines.specs.AssignsMemo.{AssignsSound}
use Rattle.machines.specs.ValueAt.{giving_from}
use Rattle.machines.proofs.value_of.entered.Given as goal

abbrev pub invariant-loop : goal.invariant-loop
invariant-loop l = ((ns : List Name) → length ns ≡ l.drawing.pack.names → giving_from l.layout (uncovered_t ns l.drawing.pack.bytes.now l.layout l.x l.levels) (l.end - l.counter) l.g ≡ giving_from l.layout (uncovered_t ns l.drawing.pack.bytes.now l.layout l.x l.levels) l.end l.initial.g) × AssignsSound l.drawing.pack.bytes.now l.drawing.pack.names l.drawing.memo.now l.hints
