use Rattle.std.proofs.Common.{length, ◌-◌, ◌≤◌}
use Rattle.charts.proofs.try_all.Given as goal

abbrev pub invariant-loop-at : goal.invariant-loop-at
invariant-loop-at g l = (l.at ≤ length l.s) × (l.tried ≤ l.at) × (l.different ≤ l.tried)

abbrev pub decreases-loop-at : goal.decreases-loop-at
decreases-loop-at g l = length l.s - l.at
