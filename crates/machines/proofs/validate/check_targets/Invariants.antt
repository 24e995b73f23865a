use Prim.Native.Nat.{◌-◌}
use mathlib.Core.List.{List}
use mathlib.Core.Path.{◌≡◌}
use lib.ListN.{length}
use Rattle.pack_rules.specs.Names.{Name}
use Rattle.std.specs.Prelude.{IfSome}
use Rattle.machines.specs.ValidateAt.{Has, moves_checked, targets_t}
use Rattle.machines.proofs.validate.check_targets.Given as goal

abbrev pub invariant-loop : goal.invariant-loop
invariant-loop l = ((ns : List Name) → length ns ≡ l.drawing.pack.names → moves_checked ns l.drawing.pack.bytes.now l.layout l.q l.p (l.end - l.counter) l.o ≡ targets_t ns l.drawing.pack.bytes.now l.layout l.q l.p) × IfSome l.last (Has l.drawing.pack.bytes.now l.layout l.q)
