use mathlib.Core.List.{List}
use mathlib.Core.Path.{◌≡◌}
use Prim.Native.Nat.{◌*◌, ◌-◌}
use lib.ListN.{length}
use Rattle.pack_rules.specs.Names.{Name}
use Rattle.activations.specs.LocalsAt.{holder_locals_t, left_of}
use Rattle.activations.proofs.locals.put_holder_locals.Given as goal

abbrev pub invariant-loop-row : goal.invariant-loop-row
invariant-loop-row l = (ns : List Name) → length ns ≡ l.info.names → holder_locals_t ns l.pack l.old l.info.made l.a l.offsets l.lasts l.types (3 * l.row) (l.rows - l.row) (left_of l.later l.out l.made l.q) ≡ holder_locals_t ns l.pack l.old l.info.made l.a l.offsets l.lasts l.types 0 l.rows (left_of l.initial.later l.initial.out l.initial.made l.initial.q)
