use Prim.Native.Nat.{◌+◌, ◌-◌}
use mathlib.Core.List.{List}
use mathlib.Core.Path.{◌≡◌}
use lib.ListN.{length}
use Rattle.pack_rules.specs.Names.{Name}
use Rattle.machines.specs.ResolveAt.{region_w, rounds, state_w, walk}
use Rattle.machines.proofs.resolve.+resolve_state_resolve_states.Given as goal

abbrev pub decreases-resolve_state : goal.decreases-resolve_state
decreases-resolve_state l = l.levels + l.levels + 1

abbrev pub decreases-resolve_states : goal.decreases-resolve_states
decreases-resolve_states l = l.levels + l.levels

abbrev pub invariant-resolve_state-loop-n : goal.invariant-resolve_state-loop-n
invariant-resolve_state-loop-n l = (ns : List Name) → length ns ≡ l.tables.drawing.pack.names → rounds (region_w ns l.tables.drawing.pack.bytes.now l.tables.offsets.now l.tables.machines.now (walk ns l.tables.drawing.pack.bytes.now l.tables.offsets.now l.tables.machines.now l.levels) l.p) l.n l.o l.c l.a ≡ rounds (region_w ns l.tables.drawing.pack.bytes.now l.tables.offsets.now l.tables.machines.now (walk ns l.tables.drawing.pack.bytes.now l.tables.offsets.now l.tables.machines.now l.levels) l.p) l.initial.n l.initial.o l.initial.c l.initial.a

abbrev pub decreases-resolve_state-loop-n : goal.decreases-resolve_state-loop-n
decreases-resolve_state-loop-n l = l.n

abbrev pub invariant-resolve_states-loop : goal.invariant-resolve_states-loop
invariant-resolve_states-loop l = (ns : List Name) → length ns ≡ l.tables.drawing.pack.names → rounds (state_w ns l.tables.drawing.pack.bytes.now l.tables.offsets.now l.tables.machines.now (walk ns l.tables.drawing.pack.bytes.now l.tables.offsets.now l.tables.machines.now (l.levels - 1)) l.p) (l.count - l.counter) l.o l.c l.a ≡ rounds (state_w ns l.tables.drawing.pack.bytes.now l.tables.offsets.now l.tables.machines.now (walk ns l.tables.drawing.pack.bytes.now l.tables.offsets.now l.tables.machines.now (l.levels - 1)) l.p) l.count l.at l.done 0
