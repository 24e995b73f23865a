use Prim.Native.Nat.{◌-◌}
use mathlib.Core.Path.{◌≡◌}
use Rattle.machines.specs.OwnersAt.{find_t}
use Rattle.machines.proofs.owners.find_node.Given as goal

abbrev pub invariant-loop-i : goal.invariant-loop-i
invariant-loop-i l = find_t l.nodes l.x (l.n - l.i) l.i ≡ find_t l.nodes l.x l.n 0
