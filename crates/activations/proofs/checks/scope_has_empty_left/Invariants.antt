use Prim.Native.Nat.{◌-◌}
use mathlib.Core.List.{List}
use mathlib.Core.Path.{◌≡◌}
use lib.ListN.{length}
use Rattle.pack_rules.specs.Names.{Name}
use Rattle.activations.specs.Places.{any_t}
use Rattle.activations.specs.ChecksAt.{nameless_t, over_equation}
use Rattle.activations.proofs.checks.scope_has_empty_left.Given as goal

abbrev pub invariant-loop : goal.invariant-loop
invariant-loop l = (ns : List Name) → length ns ≡ l.names → any_t (nameless_t ns l.pack) (over_equation ns l.pack) (l.end - l.counter) l.p ≡ any_t (nameless_t ns l.pack) (over_equation ns l.pack) l.end l.initial.p
