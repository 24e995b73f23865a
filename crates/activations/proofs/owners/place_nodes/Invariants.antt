use Prim.Native.Nat.{◌-◌, ◌%◌}
use mathlib.Core.List.{List}
use mathlib.Core.Path.{◌≡◌}
use lib.ListN.{length}
use Rattle.pack_rules.specs.Names.{Name}
use Rattle.machines.specs.OwnersAt.{fill_t, node_end, nth}
use Rattle.activations.proofs.owners.place_nodes.Given as goal

abbrev pub invariant-loop-k : goal.invariant-loop-k
invariant-loop-k l = (ns : List Name) → length ns ≡ l.names → (l.p ≡ nth (node_end ns l.pack) l.c.next l.k) × (fill_t (λ i. nth (node_end ns l.pack) l.c.next i % 65536) (l.c.value - l.k) l.k l.nodes ≡ fill_t (λ i. nth (node_end ns l.pack) l.c.next i % 65536) l.c.value 0 l.initial.nodes)
