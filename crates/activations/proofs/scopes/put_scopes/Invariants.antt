use Prim.Native.Nat.{◌-◌}
use mathlib.Core.List.{List}
use mathlib.Core.Path.{◌≡◌}
use lib.ListN.{length}
use Rattle.wire.specs.Writer.{state_of}
use Rattle.pack_rules.specs.Names.{Name}
use Rattle.activations.specs.ScopesAt.{branches_t}
use Rattle.activations.proofs.scopes.put_scopes.Given as goal

abbrev pub invariant-loop-k : goal.invariant-loop-k
invariant-loop-k l = (ns : List Name) → length ns ≡ l.info.names → branches_t l.old l.pack l.offsets l.info.names l.info.made ns l.info.last l.lasts l.rows l.types l.outs l.a l.n l.k (l.n - l.k) l.p (state_of l.out l.made l.v) ≡ branches_t l.old l.pack l.offsets l.info.names l.info.made ns l.info.last l.lasts l.rows l.types l.outs l.a l.n 0 l.n l.initial.p (state_of l.initial.out l.initial.made l.initial.v)
