use Prim.Native.Nat.{◌≤◌, ◌-◌}
use mathlib.Core.List.{List, []}
use mathlib.Core.Path.{◌≡◌}
use lib.ListN.{length, take}
use Rattle.wire.specs.Writer.{state_of}
use Rattle.pack_rules.specs.Names.{Name}
use Rattle.activations.specs.ScopesAt.{equations_t}
use Rattle.activations.proofs.scopes.put_scope_equations.Given as goal

abbrev pub invariant-loop : goal.invariant-loop
invariant-loop l = (l.m ≤ 21848) × ((ns : List Name) → length ns ≡ l.info.names → equations_t l.old l.pack l.offsets l.info.names l.info.made ns l.info.last l.lasts l.rows l.types l.outs l.a l.n l.k (l.end - l.counter) l.p (take l.m l.sampled) (state_of l.out l.made l.v) ≡ equations_t l.old l.pack l.offsets l.info.names l.info.made ns l.info.last l.lasts l.rows l.types l.outs l.a l.n l.k l.end l.initial.p [] (state_of l.initial.out l.initial.made l.initial.v))
