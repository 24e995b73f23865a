use mathlib.Core.List.{List}
use mathlib.Core.Path.{◌≡◌}
use lib.ListN.{length, drop}
use Rattle.pack_rules.specs.Names.{Name}
use Rattle.activations.specs.LocalsAt.{left_of, new_locals_t}
use Rattle.activations.proofs.locals.put_new_locals.Given as goal

abbrev pub invariant-loop-id : goal.invariant-loop-id
invariant-loop-id l = (ns : List Name) → length ns ≡ l.info.names → new_locals_t ns l.pack l.old l.info.made l.a l.offsets l.types l.outs l.n l.k l.sampled (drop l.id-index l.ids) (left_of l.later l.out l.made l.q) ≡ new_locals_t ns l.pack l.old l.info.made l.a l.offsets l.types l.outs l.n l.k l.sampled l.ids (left_of l.initial.later l.initial.out l.initial.made l.initial.q)
