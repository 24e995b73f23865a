use Prim.Native.Nat.{◌-◌}
use mathlib.Core.Path.{◌≡◌}
use Rattle.machines.specs.ReceivingNodes.{receives_t}
use Rattle.activations.specs.ActTable.{goal_t}
use Rattle.activations.proofs.added.receives.Given as goal

abbrev pub invariant-loop-i : goal.invariant-loop-i
invariant-loop-i l = receives_t (goal_t l.acts) l.k (l.n - l.i) l.i l.b ≡ receives_t (goal_t l.acts) l.k l.n 0 65536
