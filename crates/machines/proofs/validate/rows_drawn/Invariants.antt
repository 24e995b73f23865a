use Prim.Native.Nat.{◌-◌}
use mathlib.Core.List.{List}
use mathlib.Core.Path.{◌≡◌}
use lib.ListN.{length}
use Rattle.pack_rules.specs.Names.{Name}
use Rattle.machines.specs.ValidateAt.{rows_drawn}
use Rattle.machines.proofs.validate.rows_drawn.Given as goal

abbrev pub invariant-loop : goal.invariant-loop
invariant-loop l = (ns : List Name) → length ns ≡ l.drawing.pack.names → rows_drawn ns l.drawing.pack.bytes.now l.layout (l.count - l.counter) l.p l.at ≡ rows_drawn ns l.drawing.pack.bytes.now l.layout l.count l.from l.f
