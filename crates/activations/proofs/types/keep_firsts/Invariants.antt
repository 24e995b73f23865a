use Prim.Native.Nat.{◌-◌}
use mathlib.Core.List.{List}
use mathlib.Core.Path.{◌≡◌}
use lib.ListN.{length}
use Rattle.pack_rules.specs.Names.{Name}
use Rattle.activations.specs.Places.{each_of}
use Rattle.activations.specs.TypesAt.{enum_end}
use Rattle.activations.specs.FirstVariantsAt.{first_t}
use Rattle.activations.proofs.types.keep_firsts.Given as goal

abbrev pub invariant-loop : goal.invariant-loop
invariant-loop l = (ns : List Name) → length ns ≡ l.names → each_of (first_t l.pack) (enum_end ns l.pack) (l.end - l.counter) l.p l.offsets ≡ each_of (first_t l.pack) (enum_end ns l.pack) l.end l.initial.p l.initial.offsets
