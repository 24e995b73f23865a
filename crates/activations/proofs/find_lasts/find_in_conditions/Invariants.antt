use mathlib.Core.List.{List}
use mathlib.Core.Path.{◌≡◌}
use lib.ListN.{length}
use Prim.Native.Nat.{◌≤◌, ◌-◌}
use Rattle.pack_rules.specs.Names.{Name}
use Rattle.activations.specs.Places.{branch_end, each_of}
use Rattle.activations.specs.LastsAt.{find_in_condition_t, rows_of}
use Rattle.activations.proofs.find_lasts.find_in_conditions.Given as goal

abbrev pub invariant-loop : goal.invariant-loop
invariant-loop l = (l.c ≤ 8192) × ((ns : List Name) → length ns ≡ l.info.names → each_of (find_in_condition_t ns l.pack l.info.last) (branch_end ns l.pack) (l.end - l.counter) l.p (rows_of l.lasts l.c) ≡ each_of (find_in_condition_t ns l.pack l.info.last) (branch_end ns l.pack) l.end l.initial.p (rows_of l.initial.lasts l.count))
