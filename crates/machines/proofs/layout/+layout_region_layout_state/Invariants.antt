use Rattle.machines.specs.LayoutAt.{board, inner, layout_region, layout_state, refine_b, region_b, times}
use Rattle.pack_rules.specs.Names.{Name}
use lib.ListN.{length}
use mathlib.Core.Path.{◌≡◌}
use mathlib.Core.List.{List}
use Prim.Native.Nat.{◌+◌, ◌-◌}
use Rattle.machines.proofs.layout.+layout_region_layout_state.Given as goal

abbrev pub decreases-layout_region : goal.decreases-layout_region
decreases-layout_region l = l.levels + l.levels

abbrev pub decreases-layout_state : goal.decreases-layout_state
decreases-layout_state l = l.levels + l.levels + 1

abbrev pub invariant-layout_region-loop : goal.invariant-layout_region-loop
invariant-layout_region-loop l = (ns : List Name) → length ns ≡ l.drawing.pack.names → times (layout_state ns l.drawing.pack.bytes.now l.offsets l.machines (layout_region ns l.drawing.pack.bytes.now l.offsets l.machines (l.levels - 1)) l.c.regions l.a l.m) (l.end - l.counter) (board l.layout l.rows l.qualified l.e) ≡ times (layout_state ns l.drawing.pack.bytes.now l.offsets l.machines (layout_region ns l.drawing.pack.bytes.now l.offsets l.machines (l.levels - 1)) l.c.regions l.a l.m) l.end (board l.initial.layout l.initial.rows l.initial.qualified l.initial.e)

abbrev pub invariant-layout_state-loop-n : goal.invariant-layout_state-loop-n
invariant-layout_state-loop-n l = (ns : List Name) → length ns ≡ l.drawing.pack.names → inner (region_b ns l.drawing.pack.bytes.now l.offsets l.machines (layout_region ns l.drawing.pack.bytes.now l.offsets l.machines l.levels) l.c.words l.up l.a l.m) l.n l.k (board l.layout l.rows l.qualified l.e) (refine_b ns l.drawing.pack.bytes.now l.offsets l.machines (layout_region ns l.drawing.pack.bytes.now l.offsets l.machines l.levels) l.c.words l.up l.b.letter l.b.length) ≡ inner (region_b ns l.drawing.pack.bytes.now l.offsets l.machines (layout_region ns l.drawing.pack.bytes.now l.offsets l.machines l.levels) l.c.words l.up l.a l.m) l.initial.n l.initial.k (board l.initial.layout l.initial.rows l.initial.qualified l.initial.e) (refine_b ns l.drawing.pack.bytes.now l.offsets l.machines (layout_region ns l.drawing.pack.bytes.now l.offsets l.machines l.levels) l.c.words l.up l.b.letter l.b.length)

abbrev pub decreases-layout_state-loop-n : goal.decreases-layout_state-loop-n
decreases-layout_state-loop-n l = l.n
