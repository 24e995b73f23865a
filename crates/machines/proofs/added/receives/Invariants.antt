use Prim.Native.Nat.{◌-◌}
use mathlib.Core.Path.{◌≡◌}
use Rattle.machines.specs.ReceivingNodes.{goes_t, receives_t}
use Rattle.machines.proofs.added.receives.Given as goal

abbrev pub invariant-loop-i : goal.invariant-loop-i
invariant-loop-i l = receives_t (goes_t l.receivers) l.k (l.n - l.i) l.i l.b ≡ receives_t (goes_t l.receivers) l.k l.n 0 65536
