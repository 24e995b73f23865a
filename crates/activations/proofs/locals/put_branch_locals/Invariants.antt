use Prim.Native.Nat.{◌-◌}
use mathlib.Core.List.{List}
use mathlib.Core.Path.{◌≡◌}
use lib.ListN.{length}
use Rattle.pack_rules.specs.Names.{Name}
use Rattle.activations.specs.LocalsAt.{branch_locals_t, left_of}
use Rattle.activations.proofs.locals.put_branch_locals.Given as goal

abbrev pub invariant-loop-k : goal.invariant-loop-k
invariant-loop-k l = (ns : List Name) → length ns ≡ l.info.names → branch_locals_t ns l.pack l.old l.info.made l.a l.offsets l.types l.outs l.n l.info.last l.lasts l.rows l.k (l.n - l.k) l.g (left_of l.later l.out l.made l.q) ≡ branch_locals_t ns l.pack l.old l.info.made l.a l.offsets l.types l.outs l.n l.info.last l.lasts l.rows 0 l.n l.at (left_of l.initial.later l.initial.out l.initial.made l.initial.q)
