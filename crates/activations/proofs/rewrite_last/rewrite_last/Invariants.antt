use mathlib.Core.List.{List}
use mathlib.Core.Path.{◌≡◌}
use Prim.Native.Nat.{ℕ}
use lib.ListN.{length}
use Rattle.wire.specs.Writer.{state_of}
use Rattle.pack_rules.specs.Names.{Name}
use Rattle.activations.specs.Walks.{left_t, walked, write_step}
use Rattle.activations.specs.RewriteLastAt.{met_items}
use Rattle.activations.proofs.rewrite_last.rewrite_last.Given as goal

abbrev pub invariant-loop-n : goal.invariant-loop-n
invariant-loop-n l = (length {A = ℕ} l.out ≡ length {A = ℕ} l.initial.out) × (length {A = ℕ} l.made ≡ length {A = ℕ} l.initial.made) × ((ns : List Name) → length ns ≡ l.info.names → walked ns l.pack l.info.last (write_step l.old (met_items l.pack l.offsets l.a)) l.n l.p (state_of l.out l.made l.v) ≡ walked ns l.pack l.info.last (write_step l.old (met_items l.pack l.offsets l.a)) 1 l.at (state_of l.initial.out l.initial.made l.initial.v))

abbrev pub decreases-loop-n : goal.decreases-loop-n
decreases-loop-n l = left_t l.pack l.n l.p
