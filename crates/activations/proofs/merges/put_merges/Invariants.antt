use Prim.Native.Nat.{◌-◌}
use mathlib.Core.List.{List}
use mathlib.Core.Path.{◌≡◌}
use lib.ListN.{length}
use Rattle.wire.specs.Writer.{state_of}
use Rattle.pack_rules.specs.Names.{Name}
use Rattle.pack_rules.specs.Syntax.{Expr}
use Rattle.pack.specs.Intern.{render}
use Rattle.activations.specs.ByNumber.{merges_t}
use Rattle.activations.proofs.merges.put_merges.Given as goal

abbrev pub invariant-loop : goal.invariant-loop
invariant-loop l = (ns : List Name) → length ns ≡ l.names → (cs : List Expr) → length cs ≡ l.count → render l.old (merges_t ns l.pack l.offsets l.a cs (l.end - l.counter) l.p) (state_of l.out l.made l.v) ≡ render l.old (merges_t ns l.pack l.offsets l.a cs l.end l.initial.p) (state_of l.initial.out l.initial.made l.initial.v)
