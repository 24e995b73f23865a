use Prim.Native.Nat.{◌≤◌}
use mathlib.Core.Path.{◌≡◌}
use lib.ListN.{take, drop}
use Rattle.activations.specs.FreeVarsAt.{join_t}
use Rattle.activations.proofs.free_vars.join.Given as goal

abbrev pub invariant-loop-id : goal.invariant-loop-id
invariant-loop-id l = (l.m ≤ 21848) × (join_t (drop l.id-index l.ids) (take l.m l.t) ≡ join_t l.ids (take l.n l.initial.t))
