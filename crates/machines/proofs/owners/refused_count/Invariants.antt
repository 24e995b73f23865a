use Prim.Native.Nat.{◌+◌, ◌-◌, ◌≤◌}
use mathlib.Core.Path.{◌≡◌}
use Rattle.machines.specs.AddedAt.{total_t}
use Rattle.machines.specs.OwnersAt.{refused_t}
use Rattle.machines.proofs.owners.refused_count.Given as goal

abbrev pub invariant-loop-i : goal.invariant-loop-i
invariant-loop-i l = (l.c ≤ l.i) × (l.c + total_t (refused_t l.receivers) (l.n - l.i) l.i ≡ total_t (refused_t l.receivers) l.n 0)
