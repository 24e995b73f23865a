use mathlib.Core.List.{List}
use mathlib.Core.Path.{◌≡◌}
use Prim.Native.Nat.{◌-◌}
use lib.ListN.{length}
use Rattle.pack_rules.specs.Names.{Name}
use Rattle.activations.specs.Places.{each_of}
use Rattle.activations.specs.ChecksAt.{assign_t, over_equation}
use Rattle.activations.proofs.checks.assign_scope.Given as goal

abbrev pub invariant-loop : goal.invariant-loop
invariant-loop l = (ns : List Name) → length ns ≡ l.names → each_of (assign_t l.pack l.k) (over_equation ns l.pack) (l.end - l.counter) l.p l.sampled ≡ each_of (assign_t l.pack l.k) (over_equation ns l.pack) l.end l.initial.p l.initial.sampled
