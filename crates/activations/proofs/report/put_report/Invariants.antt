use Prim.Native.Nat.{◌+◌, ◌-◌}
use mathlib.Core.Path.{◌≡◌}
use lib.ListN.{length}
use Rattle.wire.specs.Writer.{overwritten}
use Rattle.machines.specs.ReportAt.{bytes_t}
use Rattle.activations.specs.ReportAt.{entry_t}
use Rattle.activations.proofs.report.put_report.Given as goal

abbrev pub invariant-loop-i : goal.invariant-loop-i
invariant-loop-i l = (l.e + length (bytes_t (entry_t l.names l.pack l.offsets l.acts) (l.n - l.i) l.i) ≡ 2 + length (bytes_t (entry_t l.names l.pack l.offsets l.acts) l.n 0)) × (overwritten l.e (bytes_t (entry_t l.names l.pack l.offsets l.acts) (l.n - l.i) l.i) l.report ≡ overwritten 2 (bytes_t (entry_t l.names l.pack l.offsets l.acts) l.n 0) l.initial.report)
