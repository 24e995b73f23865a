use Prim.Native.Nat.{ℕ, ◌-◌}
use mathlib.Core.List.{List}
use mathlib.Core.Path.{◌≡◌}
use lib.ListN.{length}
use Rattle.wire.specs.Writer.{state_of}
use Rattle.pack_rules.specs.Names.{Name}
use Rattle.pack_rules.specs.Write.{Item}
use Rattle.pack.specs.Intern.{render}
use Rattle.machines.specs.AddedAt.{each_t}
use Rattle.machines.specs.EmitMachineAt.{AllWrite, enums_at}
use Rattle.machines.proofs.emit_machine.put_all_enums.Given as goal

abbrev pub invariant-loop-i : goal.invariant-loop-i
invariant-loop-i l = (ns : List Name) → length ns ≡ l.drawing.pack.names → (ens : ℕ → List Item) → AllWrite l.old (enums_at ns l.drawing.pack.bytes.now l.offsets l.machines) l.defs l.n ens → render l.old (each_t ens (l.n - l.i) l.i) (state_of l.out l.made l.v) ≡ render l.old (each_t ens l.n 0) (state_of l.initial.out l.initial.made l.initial.v)
