use Prim.Native.Nat.{◌-◌}
use mathlib.Core.List.{List}
use mathlib.Core.Path.{◌≡◌}
use lib.ListN.{length}
use Rattle.pack_rules.specs.Names.{Name}
use Rattle.machines.specs.OwnersAt.{fill_t, node_end, node_name_t, nth}
use Rattle.machines.proofs.owners.place_nodes.Given as goal

abbrev pub invariant-loop-k : goal.invariant-loop-k
invariant-loop-k l = (ns : List Name) → length ns ≡ l.names → (l.p ≡ nth (node_end ns l.pack) l.from l.k) × (fill_t (node_name_t ns l.pack l.from) (l.count - l.k) l.k l.nodes ≡ fill_t (node_name_t ns l.pack l.from) l.count 0 l.initial.nodes)
