use Prim.Native.Nat.{◌-◌}
use mathlib.Core.Path.{◌≡◌}
use Rattle.machines.specs.OwnersAt.{find_t}
use Rattle.activations.specs.OwnersAt.{owners_t}
use Rattle.activations.proofs.owners.node_named.Given as goal

abbrev pub invariant-loop-k : goal.invariant-loop-k
invariant-loop-k l = find_t (owners_t l.pack l.nodes l.n) l.x (l.n - l.k) l.k ≡ find_t (owners_t l.pack l.nodes l.n) l.x l.n 0
