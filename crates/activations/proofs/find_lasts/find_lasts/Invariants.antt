use mathlib.Core.List.{List}
use mathlib.Core.Path.{◌≡◌}
use lib.ListN.{length}
use Prim.Native.Nat.{◌≤◌}
use Rattle.pack_rules.specs.Names.{Name}
use Rattle.activations.specs.Walks.{left_t, walked}
use Rattle.activations.specs.LastsAt.{find_step, rows_of}
use Rattle.activations.proofs.find_lasts.find_lasts.Given as goal

abbrev pub invariant-loop-n : goal.invariant-loop-n
invariant-loop-n l = (length l.lasts ≡ length l.initial.lasts) × (l.c ≤ 8192) × ((ns : List Name) → length ns ≡ l.info.names → walked ns l.pack l.info.last find_step l.n l.p (rows_of l.lasts l.c) ≡ walked ns l.pack l.info.last find_step 1 l.at (rows_of l.initial.lasts l.count))

abbrev pub decreases-loop-n : goal.decreases-loop-n
decreases-loop-n l = left_t l.pack l.n l.p
