use Prim.Native.Nat.{◌+◌, ◌-◌, ◌≤◌}
use mathlib.Core.Path.{◌≡◌}
use Rattle.machines.specs.OwnersAt.{nodes_of, settle_t}
use Rattle.machines.proofs.owners.assign_nodes.Given as goal

abbrev pub invariant-loop-i : goal.invariant-loop-i
invariant-loop-i l = (l.n ≤ l.old + l.i) × (settle_t l.pack l.defs l.regcounts (l.count - l.i) l.i (nodes_of l.receivers l.nodes l.n) ≡ settle_t l.pack l.defs l.regcounts l.count 0 (nodes_of l.initial.receivers l.initial.nodes l.old))
