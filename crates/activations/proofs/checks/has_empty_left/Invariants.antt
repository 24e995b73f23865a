use Prim.Native.Nat.{◌-◌}
use mathlib.Core.List.{List}
use mathlib.Core.Path.{◌≡◌}
use lib.ListN.{length}
use Rattle.pack_rules.specs.Names.{Name}
use Rattle.activations.specs.Places.{any_t, body_in, branch_end}
use Rattle.activations.specs.ChecksAt.{scope_has_empty_left_t}
use Rattle.activations.proofs.checks.has_empty_left.Given as goal

abbrev pub invariant-loop : goal.invariant-loop
invariant-loop l = (ns : List Name) → length ns ≡ l.names → any_t (λ q. scope_has_empty_left_t ns l.pack (body_in ns l.pack q)) (branch_end ns l.pack) (l.end - l.counter) l.p ≡ any_t (λ q. scope_has_empty_left_t ns l.pack (body_in ns l.pack q)) (branch_end ns l.pack) l.end l.initial.p
