use Prim.Native.Nat.{◌+◌, ◌-◌, ◌≤◌}
use mathlib.Core.Path.{◌≡◌}
use Rattle.machines.specs.AddedAt.{total_t}
use Rattle.activations.specs.ReportAt.{is_refused_t}
use Rattle.activations.proofs.report.refused_count.Given as goal

abbrev pub invariant-loop-i : goal.invariant-loop-i
invariant-loop-i l = (l.c ≤ l.i) × (l.c + total_t (is_refused_t l.acts) (l.n - l.i) l.i ≡ total_t (is_refused_t l.acts) l.n 0)
