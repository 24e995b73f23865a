use Prim.Native.Nat.{◌+◌, ◌-◌}
use mathlib.Core.List.{List}
use mathlib.Core.Path.{◌≡◌}
use lib.ListN.{length, get_or}
use Rattle.pack_rules.specs.Names.{Name}
use Rattle.machines.specs.ValidateAt.{AllRecalled, checked_region, checked_state, each_row}
use Rattle.machines.proofs.validate.+validate_region_validate_state.Given as goal

abbrev pub decreases-validate_region : goal.decreases-validate_region
decreases-validate_region l = l.levels + l.levels

abbrev pub decreases-validate_state : goal.decreases-validate_state
decreases-validate_state l = l.levels + l.levels + 1

abbrev pub invariant-validate_region-loop : goal.invariant-validate_region-loop
invariant-validate_region-loop l = ((ns : List Name) → length ns ≡ l.drawing.pack.names → each_row l.layout (checked_state ns l.drawing.pack.bytes.now l.layout (checked_region ns l.drawing.pack.bytes.now l.layout (l.levels - 1)) l.q) (l.end - l.counter) l.p ≡ each_row l.layout (checked_state ns l.drawing.pack.bytes.now l.layout (checked_region ns l.drawing.pack.bytes.now l.layout (l.levels - 1)) l.q) (get_or l.layout (l.q + 6) 0) (l.q + 9)) × AllRecalled l.drawing.pack.bytes.now l.drawing.pack.names l.layout l.v l.q (l.end - l.counter) l.p

abbrev pub invariant-validate_state-loop : goal.invariant-validate_state-loop
invariant-validate_state-loop l = (ns : List Name) → length ns ≡ l.drawing.pack.names → each_row l.layout (checked_region ns l.drawing.pack.bytes.now l.layout l.levels) (l.end - l.counter) l.g ≡ each_row l.layout (checked_region ns l.drawing.pack.bytes.now l.layout l.levels) (get_or l.layout (l.p + 5) 0) (l.p + 6)
