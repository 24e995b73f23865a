use Prim.Native.Nat.{◌-◌}
use mathlib.Core.Path.{◌≡◌}
use mathlib.Core.List.{List}
use lib.ListN.{length}
use Rattle.wire.specs.Writer.{state_of}
use Rattle.pack.specs.Intern.{render}
use Rattle.pack_rules.specs.Names.{Name}
use Rattle.machines.specs.EmitAt.{regions_t}
use Rattle.machines.proofs.emit_region.emit_regions.Given as goal

abbrev pub invariant-loop-i : goal.invariant-loop-i
invariant-loop-i l = (ns : List Name) → length ns ≡ l.pack.names → render l.old (regions_t l.pack.bytes.now l.offsets l.layout l.qualified ns l.rows l.i (l.n - l.i)) (state_of l.out l.made l.v) ≡ render l.old (regions_t l.pack.bytes.now l.offsets l.layout l.qualified ns l.rows 0 l.n) (state_of l.initial.out l.initial.made l.initial.v)
