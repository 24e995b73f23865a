-- Numbers as bytes, lowest first.
use Rattle.std.specs.Prelude.{ℕ, zero, suc, ◌*◌, ◌-◌, ◌/◌, ◌%◌, List, [], ◌∷◌}

-- how many values a word of 16 bits has
abbrev pub word_range : ℕ
word_range = 256 * 256

-- the greatest of them
abbrev pub word_max : ℕ
word_max = word_range - 1

-- n bytes of a number, lowest first
unfoldable pub bytes : ℕ → ℕ → List ℕ
bytes zero k = []
bytes (suc n) k = (k % 256) ∷ bytes n (k / 256)

-- 16 bits
unfoldable pub two : ℕ → List ℕ
two k = (k % 256) ∷ (k / 256 % 256) ∷ []
