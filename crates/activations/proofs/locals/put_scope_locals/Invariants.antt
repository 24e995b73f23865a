use Prim.Native.Nat.{◌≤◌, ◌-◌}
use mathlib.Core.List.{List, []}
use mathlib.Core.Path.{◌≡◌}
use lib.ListN.{length, take}
use Rattle.pack_rules.specs.Names.{Name}
use Rattle.activations.specs.LocalsAt.{equation_locals_t, left_of}
use Rattle.activations.proofs.locals.put_scope_locals.Given as goal

abbrev pub invariant-loop : goal.invariant-loop
invariant-loop l = (l.m ≤ 21848) × ((ns : List Name) → length ns ≡ l.info.names → equation_locals_t ns l.pack l.old l.info.made l.a l.offsets l.types l.outs l.n l.info.last l.lasts l.rows l.k (l.end - l.counter) l.g (take l.m l.sampled) (left_of l.later l.out l.made l.q) ≡ equation_locals_t ns l.pack l.old l.info.made l.a l.offsets l.types l.outs l.n l.info.last l.lasts l.rows l.k l.end l.initial.g [] (left_of l.initial.later l.initial.out l.initial.made l.initial.q))
