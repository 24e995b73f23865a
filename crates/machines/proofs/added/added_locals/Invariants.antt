use Prim.Native.Nat.{◌+◌, ◌*◌, ◌-◌, ◌≤◌}
use mathlib.Core.List.{List}
use mathlib.Core.Path.{◌≡◌}
use lib.ListN.{length}
use Rattle.pack_rules.specs.Names.{Name}
use Rattle.machines.specs.AddedAt.{adds_locals_t, total_t}
use Rattle.machines.proofs.added.added_locals.Given as goal

abbrev pub invariant-loop-i : goal.invariant-loop-i
invariant-loop-i l = (l.c ≤ 1048576 * l.i) × (l.c ≤ 1048576 * l.n) × ((ns : List Name) → length ns ≡ l.pack.names → l.c + total_t (adds_locals_t ns l.pack.bytes.now l.defs l.receivers l.regcounts l.k) (l.n - l.i) l.i ≡ total_t (adds_locals_t ns l.pack.bytes.now l.defs l.receivers l.regcounts l.k) l.n 0)

abbrev pub decreases-loop-i : goal.decreases-loop-i
decreases-loop-i l = l.n - l.i
