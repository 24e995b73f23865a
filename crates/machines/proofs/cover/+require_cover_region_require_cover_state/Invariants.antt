use Rattle.std.specs.Prelude.{None}
use Prim.Native.Nat.{◌+◌, ◌-◌}
use mathlib.Core.List.{List}
use mathlib.Core.Path.{◌≡◌}
use lib.ListN.{length}
use Rattle.pack_rules.specs.Names.{Name}
use Rattle.machines.specs.CoverAt.{all_miss, first_miss, miss_t, uncovered_t}
use Rattle.machines.specs.AssignsMemo.{AssignsSound}
use Rattle.machines.proofs.cover.+require_cover_region_require_cover_state.Given as goal

abbrev pub decreases-require_cover_region : goal.decreases-require_cover_region
decreases-require_cover_region l = l.levels + l.levels

abbrev pub decreases-require_cover_state : goal.decreases-require_cover_state
decreases-require_cover_state l = l.levels + l.levels + 1

abbrev pub invariant-require_cover_region-loop : goal.invariant-require_cover_region-loop
invariant-require_cover_region-loop l = ((ns : List Name) → length ns ≡ l.drawing.pack.names → first_miss l.layout (miss_t ns l.drawing.pack.bytes.now l.layout l.out (uncovered_t ns l.drawing.pack.bytes.now l.layout l.out (l.levels - 1))) (l.end - l.counter) l.p ≡ first_miss l.layout (miss_t ns l.drawing.pack.bytes.now l.layout l.out (uncovered_t ns l.drawing.pack.bytes.now l.layout l.out (l.levels - 1))) l.end l.initial.p) × AssignsSound l.drawing.pack.bytes.now l.drawing.pack.names l.drawing.memo.now l.hints

abbrev pub invariant-require_cover_state-loop : goal.invariant-require_cover_state-loop
invariant-require_cover_state-loop l = ((ns : List Name) → length ns ≡ l.drawing.pack.names → all_miss l.layout (uncovered_t ns l.drawing.pack.bytes.now l.layout l.out l.levels) (l.n - l.counter) l.g l.miss ≡ all_miss l.layout (uncovered_t ns l.drawing.pack.bytes.now l.layout l.out l.levels) l.n l.initial.g None) × AssignsSound l.drawing.pack.bytes.now l.drawing.pack.names l.drawing.memo.now l.hints
