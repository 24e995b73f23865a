-- Internal: nothing here has to be believed; laws tie it to what docs/TRUSTED.md lists.
-- Made names looked up among the names of a pack.
use Rattle.std.specs.Prelude.{ℕ, suc, ◌<◌, List, Bool, false, cond, ◌≡◌, length}
use Rattle.wire.specs.Writer.{State, full, st}
use Rattle.pack_rules.specs.Names.{Name, eq_name}
use Rattle.pack_rules.specs.Forms.{name_at}
use Rattle.pack.specs.Table.{number_in, seek}
use Rattle.machines.specs.Layout.{slice_of}
use Rattle.machines.specs.EmitAt.{pack_name}
use Rattle.activation_rules.specs.MadeNames.{act_prefix}
use Rattle.activations.specs.Places.{any_t}

-- whether a name begins as made ones do
unfoldable pub is_made : Name → Bool
is_made n = eq_name (slice_of n 0 6) act_prefix

-- the same of the name of an index, and of one of all
unfoldable pub made_at : List ℕ → List ℕ → ℕ → Bool
made_at s offsets k = is_made (pack_name s offsets k)

unfoldable pub some_made_t : List ℕ → List ℕ → ℕ → Bool
some_made_t s offsets names = any_t (made_at s offsets) suc names 0

-- the place of a name in a table with an index, and how many names it has where it is none
unfoldable pub place_in : List ℕ → Name → ℕ
place_in old n = number_in (seek old n)

-- the place of what a writer holds, their number where it is full or none is made
unfoldable pub place_built : (Name → ℕ) → ℕ → Bool → State → ℕ
place_built f names made full = names
place_built f names made (st co cm bs md) = cond made (f bs) names

-- what is known of the names where none is said to begin so
unfoldable pub MadeIs : List Name → Bool → Type 0
MadeIs ns made = made ≡ false → (k : ℕ) → k < length ns → is_made (name_at ns k) ≡ false
