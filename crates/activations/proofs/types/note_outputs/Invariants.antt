use Prim.Native.Nat.{◌-◌}
use mathlib.Core.List.{List}
use mathlib.Core.Path.{◌≡◌}
use lib.ListN.{length}
use Rattle.pack_rules.specs.Names.{Name}
use Rattle.activations.specs.Places.{each_of}
use Rattle.activations.specs.TypesAt.{first_port_t, port_end}
use Rattle.activations.proofs.types.note_outputs.Given as goal

abbrev pub invariant-loop : goal.invariant-loop
invariant-loop l = (ns : List Name) → length ns ≡ l.names → each_of (first_port_t l.pack) (port_end ns l.pack) (l.end - l.counter) l.p l.outs ≡ each_of (first_port_t l.pack) (port_end ns l.pack) l.end l.initial.p l.initial.outs
