use Rattle.std.proofs.Common.{◌≡◌, ℕ, ◌-◌, ◌≤◌, List, length, drop}
use Rattle.wire.specs.Writer.{state_of}
use Rattle.pack.specs.Intern.{table, put_entries}
use Rattle.pack.proofs.intern.put_entries.Given as goal

abbrev pub invariant-loop-at : goal.invariant-loop-at
invariant-loop-at l = (l.at ≤ length l.src) × (length l.made ≡ length l.initial.made) × ((o : List ℕ) → put_entries (table (drop l.at l.src)) (state_of o l.made l.v) ≡ put_entries (table l.src) (state_of o l.initial.made l.initial.v))

abbrev pub decreases-loop-at : goal.decreases-loop-at
decreases-loop-at l = length l.src - l.at
