use Prim.Native.Nat.{◌+◌, ◌-◌}
use mathlib.Core.List.{List}
use mathlib.Core.Path.{◌≡◌}
use lib.ListN.{length}
use Rattle.wire.specs.Answer.{many}
use Rattle.pack_rules.specs.Names.{Name}
use Rattle.pack_rules.specs.Read.{region_at, state_with}
use Rattle.machines.specs.ResolvedIn.{end_of}
use Rattle.machines.specs.MemoSound.{MemoSound}
use Rattle.machines.proofs.memo.+fill_state_fill_states.Given as goal

abbrev pub decreases-fill_state : goal.decreases-fill_state
decreases-fill_state l = l.levels + l.levels + 1

abbrev pub decreases-fill_states : goal.decreases-fill_states
decreases-fill_states l = l.levels + l.levels

abbrev pub invariant-fill_state-loop-i : goal.invariant-fill_state-loop-i
invariant-fill_state-loop-i l = ((ns : List Name) → length ns ≡ l.pack.names → end_of (many (region_at l.levels ns l.pack.bytes.now) (l.r.value - l.i) l.p) ≡ end_of (many (region_at l.levels ns l.pack.bytes.now) l.r.value l.r.next)) × MemoSound l.pack.bytes.now l.pack.names l.offsets l.memo

abbrev pub invariant-fill_states-loop : goal.invariant-fill_states-loop
invariant-fill_states-loop l = ((ns : List Name) → length ns ≡ l.pack.names → end_of (many (state_with (region_at (l.levels - 1) ns l.pack.bytes.now) ns l.pack.bytes.now) (l.count - l.counter) l.p) ≡ end_of (many (state_with (region_at (l.levels - 1) ns l.pack.bytes.now) ns l.pack.bytes.now) l.count l.from)) × MemoSound l.pack.bytes.now l.pack.names l.offsets l.memo
