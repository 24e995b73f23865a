use Prim.Native.Nat.{◌-◌}
use mathlib.Core.List.{List}
use mathlib.Core.Path.{◌≡◌}
use lib.ListN.{length}
use Rattle.pack_rules.specs.Names.{Name}
use Rattle.activations.specs.Places.{any_t, branch_end}
use Rattle.activations.specs.BadLastsAt.{condition_has_bad_last_t}
use Rattle.activations.proofs.checks.bad_last_in_conditions.Given as goal

abbrev pub invariant-loop : goal.invariant-loop
invariant-loop l = (ns : List Name) → length ns ≡ l.info.names → any_t (condition_has_bad_last_t ns l.pack l.info.last) (branch_end ns l.pack) (l.end - l.counter) l.p ≡ any_t (condition_has_bad_last_t ns l.pack l.info.last) (branch_end ns l.pack) l.end l.initial.p
