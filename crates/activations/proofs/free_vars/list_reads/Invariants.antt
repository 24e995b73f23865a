use Prim.Native.Nat.{ℕ, ◌≤◌}
use mathlib.Core.List.{List, []}
use mathlib.Core.Path.{◌≡◌}
use lib.ListN.{length, take}
use Rattle.pack_rules.specs.Names.{Name}
use Rattle.activations.specs.Walks.{left_t, walked}
use Rattle.activations.specs.FreeVarsAt.{read_step}
use Rattle.activations.proofs.free_vars.list_reads.Given as goal

abbrev pub invariant-loop-n : goal.invariant-loop-n
invariant-loop-n l = (length {A = ℕ} l.t ≡ length {A = ℕ} l.initial.t) × (l.r ≤ 21848) × ((ns : List Name) → length ns ≡ l.info.names → walked ns l.pack l.info.last (read_step l.lasts l.rows l.types l.outs l.info.names) l.n l.p (take l.r l.t) ≡ walked ns l.pack l.info.last (read_step l.lasts l.rows l.types l.outs l.info.names) 1 l.at [])

abbrev pub decreases-loop-n : goal.decreases-loop-n
decreases-loop-n l = left_t l.pack l.n l.p
