-- Internal: nothing here has to be believed; laws tie it to what docs/TRUSTED.md lists.
-- Where a replay stands: counts below the offset, so that no sum wraps.
use Rattle.std.specs.Prelude.{ℕ, ◌≤◌, ◌<◌}
use Rattle.replay.specs.declared.Tally.{Tally}

-- before a stored answer is read
pub record Inside (n : ℕ) (t : Tally) : Type 0 where
  pub more : t.at < n
  pub counted : t.compared ≤ t.at
  pub fewer : t.different ≤ t.at

-- after it: the offset grew, and no count is past it
pub record Onward (n : ℕ) (t r : Tally) : Type 0 where
  pub on : t.at < r.at
  pub inside : r.at ≤ n
  pub counted : r.compared ≤ r.at
  pub fewer : r.different ≤ r.at
