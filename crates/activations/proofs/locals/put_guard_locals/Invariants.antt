use mathlib.Core.List.{List}
use mathlib.Core.Path.{◌≡◌}
use Prim.Native.Nat.{◌-◌}
use lib.ListN.{length}
use Rattle.pack_rules.specs.Names.{Name}
use Rattle.activations.specs.LocalsAt.{clock_locals_t, left_of}
use Rattle.activations.proofs.locals.put_guard_locals.Given as goal

abbrev pub invariant-loop-k : goal.invariant-loop-k
invariant-loop-k l = (ns : List Name) → length ns ≡ l.info.names → clock_locals_t ns l.pack l.old l.info.made l.a l.k (l.n - l.k) (left_of l.later l.out l.made l.q) ≡ clock_locals_t ns l.pack l.old l.info.made l.a 1 (l.n - 1) (left_of l.initial.later l.initial.out l.initial.made l.initial.q)
