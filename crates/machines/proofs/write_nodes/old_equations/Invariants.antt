use Prim.Native.Nat.{◌-◌, ◌≤◌}
use mathlib.Core.List.{List}
use mathlib.Core.Path.{◌≡◌}
use lib.ListN.{length}
use Rattle.pack_rules.specs.Names.{Name}
use Rattle.machines.specs.AddedAt.{old_t}
use Rattle.machines.proofs.write_nodes.old_equations.Given as goal

abbrev pub invariant-loop-i : goal.invariant-loop-i
invariant-loop-i l = (l.i ≤ l.k) × ((ns : List Name) → length ns ≡ l.pack.names → old_t ns l.pack.bytes.now (l.count - l.i) l.p (l.k - l.i) ≡ old_t ns l.pack.bytes.now l.count l.from l.k)
