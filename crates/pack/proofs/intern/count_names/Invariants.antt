use Rattle.std.proofs.Common.{◌≡◌, ◌+◌, ◌-◌, ◌≤◌, length, drop}
use Rattle.pack.specs.Intern.{table_f, table}
use Rattle.pack.proofs.intern.count_names.Given as goal

abbrev pub invariant-loop-at : goal.invariant-loop-at
invariant-loop-at l = (l.at ≤ length l.t) × (l.k ≤ l.at) × (l.k + length (table_f (length l.t - l.k) (drop l.at l.t)) ≡ length (table l.t))

abbrev pub decreases-loop-at : goal.decreases-loop-at
decreases-loop-at l = length l.t - l.at
