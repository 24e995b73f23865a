use Prim.Native.Nat.{◌-◌}
use mathlib.Core.List.{List}
use mathlib.Core.Path.{◌≡◌}
use lib.ListN.{length}
use Rattle.pack_rules.specs.Names.{Name}
use Rattle.activations.specs.Passes.{pass_t}
use Rattle.activations.specs.Places.{act_end}
use Rattle.activations.specs.OwnersAt.{draw_t}
use Rattle.activations.proofs.owners.place_acts.Given as goal

abbrev pub invariant-loop-i : goal.invariant-loop-i
invariant-loop-i l = (ns : List Name) → length ns ≡ l.names → pass_t (λ k. draw_t (length ns) l.pack l.nodes l.n) (act_end ns l.pack) (l.i-end - l.i) l.i l.p l.acts ≡ pass_t (λ k. draw_t (length ns) l.pack l.nodes l.n) (act_end ns l.pack) l.c.value 0 l.c.next l.initial.acts
