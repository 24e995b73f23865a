-- Internal: nothing here has to be believed; laws tie it to what docs/TRUSTED.md lists.
-- Passes over things that stand one after the other.
use Rattle.std.specs.Prelude.{ℕ, zero, suc}

-- n things from p on, a step at each by how many are left with it, its index and where it stands
unfoldable pub pass_t : {S : Type 0} → (ℕ → ℕ → ℕ → S → S) → (ℕ → ℕ) → ℕ → ℕ → ℕ → S → S
pass_t f next zero k p z = z
pass_t f next (suc n) k p z = pass_t f next n (suc k) (next p) (f (suc n) k p z)
