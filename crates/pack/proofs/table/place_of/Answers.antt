use Rattle.std.proofs.Common.{◌+◌, ◌/◌, ◌%◌, ap, ◌∙◌}
use Rattle.pack.specs.Table.{cell_at, heads, place_from, place_of, way, word}
use Rattle.pack.proofs.table.place_of.Goals as goal

pub returns : goal.returns
unfolding place_of way
returns c = let t = c.args.t.now in (
  c.find_slot.ensures.0 ∙ ap (λ h. place_from 17409 t c.args.n.now (h / heads + 2251799813685248) (h % heads) (word t (cell_at (h % heads)))) c.hash-h.ensures,
  c.find_slot.ensures.1,
)
