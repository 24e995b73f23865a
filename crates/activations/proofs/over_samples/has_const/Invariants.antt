use mathlib.Core.Bool.{false}
use mathlib.Core.List.{List}
use mathlib.Core.Path.{◌≡◌}
use lib.ListN.{length}
use Rattle.pack_rules.specs.Names.{Name}
use Rattle.activations.specs.ExprNodes.{is_const}
use Rattle.activations.specs.Walks.{left_t, or_step, walked}
use Rattle.activations.proofs.over_samples.has_const.Given as goal

abbrev pub invariant-loop-n : goal.invariant-loop-n
invariant-loop-n l = (ns : List Name) → length ns ≡ l.info.names → walked ns l.pack l.info.last (or_step is_const) l.n l.p false ≡ walked ns l.pack l.info.last (or_step is_const) 1 l.at false

abbrev pub decreases-loop-n : goal.decreases-loop-n
decreases-loop-n l = left_t l.pack l.n l.p
