use Prim.Native.Nat.{◌-◌}
use mathlib.Core.List.{List}
use mathlib.Core.Path.{◌≡◌}
use lib.ListN.{length}
use Rattle.wire.specs.Writer.{state_of}
use Rattle.pack_rules.specs.Names.{Name}
use Rattle.pack.specs.Intern.{render}
use Rattle.machines.specs.AddedAt.{each_t}
use Rattle.activations.specs.OriginsAt.{origin_t}
use Rattle.activations.proofs.sections.put_origins.Given as goal

abbrev pub invariant-loop-i : goal.invariant-loop-i
invariant-loop-i l = (ns : List Name) → length ns ≡ l.names → render l.old (each_t (origin_t ns l.pack l.nodes l.acts) (l.n - l.i) l.i) (state_of l.out l.made l.v) ≡ render l.old (each_t (origin_t ns l.pack l.nodes l.acts) l.n 0) (state_of l.initial.out l.initial.made l.initial.v)
