use mathlib.Core.List.{List}
use mathlib.Core.Path.{◌≡◌}
use Prim.Native.Nat.{◌-◌}
use lib.ListN.{length}
use Rattle.pack_rules.specs.Names.{Name}
use Rattle.activations.specs.Places.{body_in, branch_end}
use Rattle.activations.specs.Passes.{pass_t}
use Rattle.activations.specs.ChecksAt.{assign_scope_t}
use Rattle.activations.proofs.checks.assign_branches.Given as goal

abbrev pub invariant-loop-k : goal.invariant-loop-k
invariant-loop-k l = (ns : List Name) → length ns ≡ l.names → pass_t (λ m j q z. assign_scope_t ns l.pack j (body_in ns l.pack q) z) (branch_end ns l.pack) (l.k-end - l.k) l.k l.p l.sampled ≡ pass_t (λ m j q z. assign_scope_t ns l.pack j (body_in ns l.pack q) z) (branch_end ns l.pack) l.k-end 0 l.initial.p l.initial.sampled
