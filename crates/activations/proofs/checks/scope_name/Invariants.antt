use Prim.Native.Nat.{◌-◌}
use mathlib.Core.List.{List}
use mathlib.Core.Path.{◌≡◌}
use lib.ListN.{length}
use Rattle.pack_rules.specs.Names.{Name}
use Rattle.activations.specs.Places.{along, branch_end}
use Rattle.activations.proofs.checks.scope_name.Given as goal

abbrev pub invariant-loop : goal.invariant-loop
invariant-loop l = (ns : List Name) → length ns ≡ l.names → along (branch_end ns l.pack) (l.k - l.counter) l.p ≡ along (branch_end ns l.pack) l.k l.initial.p
