-- Internal: nothing here has to be believed; laws tie it to what docs/TRUSTED.md lists.
-- Names as they stand in the bytes, each after its length byte.
use Rattle.std.specs.Prelude.{◌≡◌, ℕ, zero, suc, ◌+◌, ◌≤◌, Bool, List, [], ◌∷◌, length, take, drop, slice_index}
use Rattle.pack_rules.specs.Names.{member}

-- the bytes of a name whose length byte stands at `at`, and of n names one after the other
unfoldable pub raw_name : List ℕ → ℕ → List ℕ
raw_name s at = take (slice_index s at) (drop (at + 1) s)

-- n names, one after the other
unfoldable pub raw_names : List ℕ → ℕ → ℕ → List (List ℕ)
raw_names s zero at = []
raw_names s (suc n) at = raw_name s at ∷ raw_names s n (at + 1 + slice_index s at)

-- they stand inside
unfoldable pub Inside : List ℕ → ℕ → ℕ → Type 0
Inside s zero at = Unit {0}
Inside s (suc n) at = (at + 1 + slice_index s at ≤ length s) × Inside s n (at + 1 + slice_index s at)

-- whether the name at x is one of the n names from `at` on
unfoldable pub one_of : List ℕ → ℕ → ℕ → ℕ → Bool
one_of s x n at = member (raw_name s x) (raw_names s n at)

-- where n names end
unfoldable pub raw_end : List ℕ → ℕ → ℕ → ℕ
raw_end s zero at = at
raw_end s (suc n) at = raw_end s n (at + 1 + slice_index s at)

-- n names from q on stand inside and end at p, where the next one stands inside and ends at `to`
pub record Follows (s : List ℕ) (q n p to : ℕ) : Type 0 where
  pub inside : Inside s n q
  pub here : raw_end s n q ≡ p
  pub ends : to ≡ p + 1 + slice_index s p
  pub short : to ≤ length s
