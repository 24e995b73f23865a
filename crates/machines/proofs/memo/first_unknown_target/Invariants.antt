use Prim.Native.Nat.{◌-◌}
use mathlib.Core.List.{List}
use mathlib.Core.Path.{◌≡◌}
use lib.ListN.{length}
use Rattle.pack_rules.specs.Names.{Name}
use Rattle.machines.specs.UnknownTargets.{IsDrawn, target_d}
use Rattle.std.specs.Prelude.{IfSome}
use Rattle.machines.proofs.memo.first_unknown_target.Given as goal

abbrev pub invariant-loop : goal.invariant-loop
invariant-loop l = ((ns : List Name) → length ns ≡ l.drawing.pack.names → target_d ns l.drawing.pack.bytes.now l.n l.f (l.count - l.counter) l.o ≡ target_d ns l.drawing.pack.bytes.now l.n l.f l.count l.from) × IfSome l.last (IsDrawn l.drawing.pack.bytes.now l.drawing.pack.names l.n l.f)
