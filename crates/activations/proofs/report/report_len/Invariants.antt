use Prim.Native.Nat.{◌+◌, ◌*◌, ◌-◌, ◌≤◌}
use mathlib.Core.Path.{◌≡◌}
use lib.ListN.{length}
use Rattle.machines.specs.ReportAt.{bytes_t}
use Rattle.activations.specs.ReportAt.{entry_t}
use Rattle.activations.proofs.report.report_len.Given as goal

abbrev pub invariant-loop-i : goal.invariant-loop-i
invariant-loop-i l = (l.c ≤ 2 + l.i * 200000) × (l.c + length (bytes_t (entry_t l.names l.pack l.offsets l.acts) (l.n - l.i) l.i) ≡ 2 + length (bytes_t (entry_t l.names l.pack l.offsets l.acts) l.n 0))
