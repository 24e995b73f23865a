use Prim.Native.Nat.{ℕ, ◌-◌, ◌≤◌}
use mathlib.Core.List.{List}
use mathlib.Core.Path.{◌≡◌}
use lib.ListN.{length}
use Rattle.wire.specs.Writer.{state_of}
use Rattle.pack_rules.specs.Names.{Name}
use Rattle.pack.specs.Intern.{render}
use Rattle.machines.specs.AddedAt.{added_locals_t, each_t}
use Rattle.machines.proofs.added.put_all_locals.Given as goal

abbrev pub invariant-loop-i : goal.invariant-loop-i
invariant-loop-i l = (length {A = ℕ} l.out ≡ length {A = ℕ} l.initial.out) × (length {A = ℕ} l.made ≡ length {A = ℕ} l.initial.made) × (l.c ≤ l.n) × ((ns : List Name) → length ns ≡ l.pack.names → render l.old (each_t (added_locals_t ns l.pack.bytes.now l.defs l.receivers l.regcounts l.offsets l.k) (l.c - l.i) l.i) (state_of l.out l.made l.v) ≡ render l.old (each_t (added_locals_t ns l.pack.bytes.now l.defs l.receivers l.regcounts l.offsets l.k) l.n 0) (state_of l.initial.out l.initial.made l.initial.v))

abbrev pub decreases-loop-i : goal.decreases-loop-i
decreases-loop-i l = l.c - l.i
