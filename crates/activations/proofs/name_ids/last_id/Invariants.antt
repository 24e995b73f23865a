use Prim.Native.Nat.{◌*◌, ◌-◌}
use mathlib.Core.Path.{◌≡◌}
use Rattle.activations.specs.NameIdsAt.{last_row_t}
use Rattle.activations.proofs.name_ids.last_id.Given as goal

abbrev pub invariant-loop-row : goal.invariant-loop-row
invariant-loop-row l = last_row_t l.lasts l.v (l.rows - l.row) (3 * l.row) ≡ last_row_t l.lasts l.v l.rows 0
