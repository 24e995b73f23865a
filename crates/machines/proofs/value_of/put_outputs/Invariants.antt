use Prim.Native.Nat.{◌-◌}
use mathlib.Core.List.{List}
use mathlib.Core.Path.{◌≡◌}
use lib.ListN.{length}
use Rattle.wire.specs.Writer.{state_of}
use Rattle.pack_rules.specs.Names.{Name}
use Rattle.pack.specs.Intern.{render}
use Rattle.machines.specs.AssignsMemo.{AssignsSound}
use Rattle.machines.specs.ValueAt.{outputs_t}
use Rattle.machines.proofs.value_of.put_outputs.Given as goal

abbrev pub invariant-loop : goal.invariant-loop
invariant-loop l = ((ns : List Name) → length ns ≡ l.drawing.pack.names → render l.old (outputs_t l.drawing.pack.bytes.now l.layout l.qualified ns (l.end - l.counter) l.p) (state_of l.out l.made l.v) ≡ render l.old (outputs_t l.drawing.pack.bytes.now l.layout l.qualified ns l.end l.initial.p) (state_of l.initial.out l.initial.made l.initial.v)) × AssignsSound l.drawing.pack.bytes.now l.drawing.pack.names l.drawing.memo.now l.told
