-- Internal: nothing here has to be believed; laws tie it to what docs/TRUSTED.md lists.
-- Where reading comes from `at` in n bytes: never back, never past the end, and on where there is something left.
use Rattle.std.specs.Prelude.{ℕ, ◌≤◌, ◌<◌}

-- one step of reading, from `at` to `to`
pub record Onward (n at to : ℕ) : Type 0 where
  pub inside : to ≤ n
  pub stays : at ≤ n → at ≤ to
  pub on : at < n → at < to
