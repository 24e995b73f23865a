-- Lists of which something holds everywhere.
use Rattle.std.specs.Prelude.{ℕ, ◌<◌, List, [], ◌∷◌, get_or}

-- of every element
unfoldable pub All : {A : Type 0} → (A → Type 0) → List A → Type 0
All o [] = Unit {0}
All o (x ∷ xs) = o x × All o xs

-- every element is a byte
abbrev pub Bytes : List ℕ → Type 0
Bytes s = (i : ℕ) → get_or s i 0 < 256
