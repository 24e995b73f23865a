use Prim.Native.Nat.{◌-◌}
use mathlib.Core.Path.{◌≡◌}
use Rattle.activations.specs.LastsAt.{row_t}
use Rattle.activations.proofs.find_lasts.row_of.Given as goal

abbrev pub invariant-loop-h : goal.invariant-loop-h
invariant-loop-h l = row_t l.lasts l.v (l.n - l.h) l.h ≡ row_t l.lasts l.v l.n 0
