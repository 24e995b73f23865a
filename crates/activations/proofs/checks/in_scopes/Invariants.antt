use Prim.Native.Nat.{◌-◌}
use mathlib.Core.List.{List}
use mathlib.Core.Path.{◌≡◌}
use lib.ListN.{length}
use Rattle.pack_rules.specs.Names.{Name}
use Rattle.activations.specs.ChecksAt.{unassigned_t}
use Rattle.activations.proofs.checks.in_scopes.Given as goal

abbrev pub invariant-loop : goal.invariant-loop
invariant-loop l = (ns : List Name) → length ns ≡ l.names → unassigned_t ns l.pack l.a l.sampled (l.end - l.counter) l.p ≡ unassigned_t ns l.pack l.a l.sampled l.end l.initial.p
