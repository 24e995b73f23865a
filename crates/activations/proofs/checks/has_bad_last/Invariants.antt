use mathlib.Core.Bool.{false}
use mathlib.Core.List.{List}
use mathlib.Core.Path.{◌≡◌}
use lib.ListN.{length}
use Rattle.pack_rules.specs.Names.{Name}
use Rattle.activations.specs.Walks.{left_t, or_step, walked}
use Rattle.activations.specs.ExprNodes.{is_bad}
use Rattle.activations.proofs.checks.has_bad_last.Given as goal

abbrev pub invariant-loop-n : goal.invariant-loop-n
invariant-loop-n l = (ns : List Name) → length ns ≡ l.info.names → walked ns l.pack l.info.last (or_step is_bad) l.n l.p false ≡ walked ns l.pack l.info.last (or_step is_bad) 1 l.at false

abbrev pub decreases-loop-n : goal.decreases-loop-n
decreases-loop-n l = left_t l.pack l.n l.p
