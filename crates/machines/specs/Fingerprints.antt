-- Internal: nothing here has to be believed; laws tie it to what docs/TRUSTED.md lists.
-- Marks of names: the two halves of the number by which pack's tables find a name. A half is a function of the name, so that names
-- which differ in one differ; whichever function it is, the laws hold.
use Rattle.std.specs.Prelude.{ℕ, ◌/◌, ◌%◌, ◌≤◌, List, [], ◌∷◌, Bool, true, false, cond, ◌||◌, ◌≡◌, length, take, eqb, ltb}
use Rattle.pack_rules.specs.Names.{Name}
use Rattle.pack.specs.Siphash.{hash}
use Rattle.pack.specs.Intern.{table}

-- the low half of a name's number: its lowest 32 bits
unfoldable pub low_of : Name → ℕ
low_of n = hash n % 4294967296

-- the high half: the 32 bits above them
unfoldable pub high_of : Name → ℕ
high_of n = hash n / 4294967296 % 4294967296

-- one half of the marks of names
unfoldable pub halves_of : (Name → ℕ) → List Name → List ℕ
halves_of f [] = []
halves_of f (n ∷ ns) = f n ∷ halves_of f ns

-- whether a half is among halves
unfoldable pub among : ℕ → List ℕ → Bool
among m [] = false
among m (x ∷ xs) = eqb x m || among m xs

-- whether a half is among the first k, or could be, as there is no room for so many
unfoldable pub may_equal : List ℕ → ℕ → ℕ → Bool
may_equal halves k m = cond (ltb (length halves) k) true (among m (take k halves))

-- the first k are the halves of a table's names, where there is room for so many
unfoldable pub Halves : (Name → ℕ) → List ℕ → ℕ → List ℕ → Type 0
Halves f halves k t = k ≤ length halves → take k halves ≡ halves_of f (table t)
