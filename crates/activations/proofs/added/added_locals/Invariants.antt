use Prim.Native.Nat.{◌+◌, ◌*◌, ◌-◌, ◌≤◌}
use mathlib.Core.Path.{◌≡◌}
use Rattle.machines.specs.AddedAt.{total_t}
use Rattle.activations.specs.CountsAt.{adds_locals_t}
use Rattle.activations.proofs.added.added_locals.Given as goal

abbrev pub invariant-loop-i : goal.invariant-loop-i
invariant-loop-i l = (l.c ≤ 65536 * l.i) × (l.c + total_t (adds_locals_t l.acts l.k) (l.n - l.i) l.i ≡ total_t (adds_locals_t l.acts l.k) l.n 0)
