use Prim.Native.Nat.{◌-◌}
use mathlib.Core.List.{List}
use mathlib.Core.Path.{◌≡◌}
use lib.ListN.{length}
use Rattle.pack_rules.specs.Names.{Name}
use Rattle.activations.specs.Places.{along, each_of}
use Rattle.activations.specs.TypesAt.{port_end, port_t}
use Rattle.activations.proofs.types.note_ports.Given as goal

abbrev pub invariant-loop : goal.invariant-loop
invariant-loop l = (ns : List Name) → length ns ≡ l.names → (along (port_end ns l.pack) (l.end - l.counter) l.p ≡ along (port_end ns l.pack) l.end l.initial.p) × (each_of (port_t l.pack) (port_end ns l.pack) (l.end - l.counter) l.p l.types ≡ each_of (port_t l.pack) (port_end ns l.pack) l.end l.initial.p l.initial.types)
