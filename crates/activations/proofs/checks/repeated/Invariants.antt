use mathlib.Core.List.{List}
use mathlib.Core.Path.{◌≡◌}
use Prim.Native.Nat.{◌-◌}
use lib.ListN.{length}
use Rattle.pack_rules.specs.Names.{Name}
use Rattle.activations.specs.ChecksAt.{repeated_t}
use Rattle.activations.proofs.checks.repeated.Given as goal

abbrev pub invariant-loop : goal.invariant-loop
invariant-loop l = (ns : List Name) → length ns ≡ l.names → repeated_t ns l.pack (l.end - l.counter) l.p l.sampled ≡ repeated_t ns l.pack l.end l.initial.p l.initial.sampled
