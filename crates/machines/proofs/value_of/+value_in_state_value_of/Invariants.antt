use Prim.Native.Nat.{◌+◌, ◌-◌}
use mathlib.Core.List.{List}
use mathlib.Core.Path.{◌≡◌}
use lib.ListN.{length}
use Rattle.wire.specs.Writer.{state_of}
use Rattle.pack_rules.specs.Names.{Name}
use Rattle.pack.specs.Intern.{render}
use Rattle.machines.specs.CoverAt.{uncovered_t}
use Rattle.machines.specs.AssignsMemo.{AssignsSound}
use Rattle.machines.specs.ValueAt.{in_state_t, value_t, values_t}
use Rattle.machines.proofs.value_of.+value_in_state_value_of.Given as goal

abbrev pub decreases-value_in_state : goal.decreases-value_in_state
decreases-value_in_state l = l.levels + l.levels + 1

abbrev pub decreases-value_of : goal.decreases-value_of
decreases-value_of l = l.levels + l.levels

abbrev pub invariant-value_of-loop : goal.invariant-value_of-loop
invariant-value_of-loop l = ((ns : List Name) → length ns ≡ l.drawing.pack.names → render l.old (values_t l.layout l.qualified (in_state_t l.drawing.pack.bytes.now l.layout l.qualified ns l.x (value_t l.drawing.pack.bytes.now l.layout l.qualified ns l.x l.rest) (uncovered_t ns l.drawing.pack.bytes.now l.layout l.x l.rest)) l.q (l.n - (l.counter - 1)) l.p) (state_of l.out l.made l.v) ≡ render l.old (values_t l.layout l.qualified (in_state_t l.drawing.pack.bytes.now l.layout l.qualified ns l.x (value_t l.drawing.pack.bytes.now l.layout l.qualified ns l.x l.rest) (uncovered_t ns l.drawing.pack.bytes.now l.layout l.x l.rest)) l.q l.n l.initial.p) (state_of l.initial.out l.initial.made l.initial.v)) × AssignsSound l.drawing.pack.bytes.now l.drawing.pack.names l.drawing.memo.now l.hints
