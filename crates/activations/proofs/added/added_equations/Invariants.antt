use Prim.Native.Nat.{◌+◌, ◌*◌, ◌-◌, ◌≤◌}
use mathlib.Core.Path.{◌≡◌}
use Rattle.machines.specs.AddedAt.{total_t}
use Rattle.activations.specs.CountsAt.{adds_equations_t}
use Rattle.activations.proofs.added.added_equations.Given as goal

abbrev pub invariant-loop-i : goal.invariant-loop-i
invariant-loop-i l = (l.c ≤ 131072 * l.i) × (l.c + total_t (adds_equations_t l.pack l.acts l.k) (l.n - l.i) l.i ≡ total_t (adds_equations_t l.pack l.acts l.k) l.n 0)
