use Prim.Native.Nat.{◌+◌, ◌*◌, ◌-◌, ◌≤◌}
use mathlib.Core.Path.{◌≡◌}
use Rattle.machines.specs.AddedAt.{owned_t, total_t}
use Rattle.machines.proofs.added.owned_count.Given as goal

abbrev pub invariant-loop-i : goal.invariant-loop-i
invariant-loop-i l = (l.c ≤ 1048576 * l.i) × (l.c + total_t (owned_t l.pack l.defs) (l.n - l.i) l.i ≡ total_t (owned_t l.pack l.defs) l.n 0)
