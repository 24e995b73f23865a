-- Internal: nothing here has to be believed; laws tie it to what docs/TRUSTED.md lists.
-- The first name of a table that stood before it, by its offset.
use Rattle.std.specs.Prelude.{ℕ, zero, suc, ◌+◌, ◌-◌, min, List, [], ◌∷◌, ◌++◌, cond, length, get_or, take, drop, ltb, Option, Some, None}
use Rattle.pack_rules.specs.Names.{Name, member}
use Rattle.pack.specs.Intern.{table}

-- where the name at `at` ends, and its letters
unfoldable pub end_at : List ℕ → ℕ → ℕ
end_at t at = min (at + 1 + get_or t at 0) (length t)

unfoldable pub word_at : List ℕ → ℕ → Name
word_at t at = take (end_at t at - (at + 1)) (drop (at + 1) t)

-- from `at` on; the first number bounds the steps
unfoldable pub first_again : ℕ → List ℕ → ℕ → Option ℕ
first_again zero t at = None
first_again (suc f) t at = cond (ltb at (length t)) (cond (member (word_at t at) (table (take at t))) (Some at) (first_again f t (end_at t at))) None

-- in the whole table
unfoldable pub duplicate_at : List ℕ → Option ℕ
duplicate_at t = first_again (length t) t 0

-- the same of names: where the first stands that is among those before it
unfoldable pub duplicate_in : List Name → List Name → ℕ → Option ℕ
duplicate_in seen [] at = None
duplicate_in seen (n ∷ ns) at = cond (member n seen) (Some at) (duplicate_in (seen ++ (n ∷ [])) ns (at + 1 + length n))
