-- Internal: nothing here has to be believed; laws tie it to what docs/TRUSTED.md lists.
-- Names by number, so that a pass compares numbers where the definitions compare names. An old name has its index. The holder of a
-- variable, where its name is no old one, has the variable's index and the number of names more.
use Rattle.std.specs.Prelude.{ℕ, ◌+◌, ◌-◌, ◌<◌, List, [], ◌∷◌, cond, ◌≡◌, length, ltb}
use Rattle.pack_rules.specs.Names.{Name}
use Rattle.pack_rules.specs.Forms.{name_at}
use Rattle.pack_rules.specs.Legal.{place}
use Rattle.activation_rules.specs.MadeNames.{Scope, last_var, sample_var}

-- i where it is below the number of names, else another number
unfoldable pub old_or : ℕ → ℕ → ℕ → ℕ
old_or names i x = cond (ltb i names) i x

-- the names of a pack, and an activation's name
module _ (ns : List Name) (a : Name) where
  -- the number of the holder of v
  unfoldable pub holder_id : ℕ → ℕ
  holder_id v = old_or (length ns) (place ns (last_var a (name_at ns v))) (length ns + v)

  -- the name of a number
  unfoldable pub name_of : ℕ → Name
  name_of x = cond (ltb x (length ns)) (name_at ns x) (last_var a (name_at ns (x - length ns)))

  -- the names of numbers
  unfoldable pub names_of : List ℕ → List Name
  names_of [] = []
  names_of (x ∷ xs) = name_of x ∷ names_of xs

  -- the number of the sample of x in a scope: one that no name has where the sample is no old name
  unfoldable pub sample_id : Scope → ℕ → ℕ
  sample_id s x = old_or (length ns) (place ns (sample_var a s (name_of x))) (length ns + length ns)

  -- the numbers that stand for names
  pub data IsId : ℕ → Type 0 where
    old_id : {x : ℕ} → x < length ns → IsId x
    held_id : {x : ℕ} → (v : ℕ) → v < length ns → x ≡ holder_id v → IsId x
