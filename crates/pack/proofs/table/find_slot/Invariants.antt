use Rattle.std.proofs.Common.{◌≡◌, ◌<◌}
use Rattle.pack.specs.Table.{cell_at, place_from, word}
use Rattle.pack.proofs.table.find_slot.Given as goal

abbrev pub invariant-loop-f : goal.invariant-loop-f
invariant-loop-f l = (l.i < 200000) × (place_from l.f l.t l.n l.h l.i (word l.t (cell_at l.i)) ≡ place_from 17409 l.t l.n l.bits l.cell (word l.t (cell_at l.cell)))
