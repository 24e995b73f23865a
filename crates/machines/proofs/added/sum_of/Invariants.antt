use Prim.Native.Nat.{◌+◌, ◌*◌, ◌-◌, ◌≤◌}
use mathlib.Core.Path.{◌≡◌}
use Rattle.machines.specs.AddedAt.{regions_t, total_t}
use Rattle.machines.proofs.added.sum_of.Given as goal

abbrev pub invariant-loop-i : goal.invariant-loop-i
invariant-loop-i l = (l.c ≤ 1048576 * l.i) × (l.c + total_t (regions_t l.regcounts) (l.n - l.i) l.i ≡ total_t (regions_t l.regcounts) l.n 0)
