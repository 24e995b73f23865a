use Prim.Native.Nat.{ℕ, ◌+◌, ◌-◌}
use mathlib.Core.List.{List}
use mathlib.Core.Path.{◌≡◌}
use lib.ListN.{length}
use Rattle.pack_rules.specs.Names.{Name}
use Rattle.wire.specs.Writer.{overwritten}
use Rattle.machines.specs.ReportAt.{EntersAll, bytes_t, of_refused}
use Rattle.machines.proofs.report.put_report.Given as goal

abbrev pub invariant-loop-i : goal.invariant-loop-i
invariant-loop-i l = (ns : List Name) → length ns ≡ l.tables.drawing.pack.names → (es : ℕ → List ℕ) → EntersAll ns l.tables.drawing.pack.bytes.now l.tables.offsets.now l.tables.machines.now l.defs l.regcounts l.receivers l.n es → (l.e + length (bytes_t (of_refused l.receivers es) (l.n - l.i) l.i) ≡ 2 + length (bytes_t (of_refused l.receivers es) l.n 0)) × (overwritten l.e (bytes_t (of_refused l.receivers es) (l.n - l.i) l.i) l.report ≡ overwritten 2 (bytes_t (of_refused l.receivers es) l.n 0) l.initial.report)
