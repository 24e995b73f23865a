use Rattle.std.proofs.Common.{◌≡◌, ◌-◌, ◌≤◌, length, drop}
use Rattle.pack_rules.specs.Write.{lookup}
use Rattle.pack.specs.Intern.{table_f, table}
use Rattle.pack.proofs.intern.find_name.Given as goal

abbrev pub invariant-loop-at : goal.invariant-loop-at
invariant-loop-at l = (l.at ≤ length l.t) × (l.k ≤ l.at) × (lookup (table_f (length l.t - l.k) (drop l.at l.t)) l.n l.k ≡ lookup (table l.t) l.n 0)

abbrev pub decreases-loop-at : goal.decreases-loop-at
decreases-loop-at l = length l.t - l.at
