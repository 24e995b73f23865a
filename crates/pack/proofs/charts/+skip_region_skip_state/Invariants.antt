use Rattle.std.proofs.Common.{◌≡◌, ◌+◌, ◌-◌, List, length}
use Rattle.wire.specs.Code.{rep, skips}
use Rattle.pack_rules.specs.Names.{Name}
use Rattle.pack_rules.specs.Read.{state_with, region_at}
use Rattle.pack.proofs.charts.+skip_region_skip_state.Given as goal

-- the levels left fall: a state's regions have its levels, a region's states one less
abbrev pub decreases-skip_region : goal.decreases-skip_region
decreases-skip_region l = l.levels + l.levels

abbrev pub decreases-skip_state : goal.decreases-skip_state
decreases-skip_state l = l.levels + l.levels + 1

abbrev pub invariant-skip_region-loop : goal.invariant-skip_region-loop
invariant-skip_region-loop l = (ns : List Name) → length ns ≡ l.names → rep (skips (state_with (region_at (l.levels - 1) ns l.pack) ns l.pack)) (l.end - l.counter) l.p ≡ rep (skips (state_with (region_at (l.levels - 1) ns l.pack) ns l.pack)) l.end l.initial.p

abbrev pub invariant-skip_state-loop : goal.invariant-skip_state-loop
invariant-skip_state-loop l = (ns : List Name) → length ns ≡ l.names → rep (skips (region_at l.levels ns l.pack)) (l.end - l.counter) l.p ≡ rep (skips (region_at l.levels ns l.pack)) l.end l.initial.p
