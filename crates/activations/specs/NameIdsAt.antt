-- Internal: nothing here has to be believed; laws tie it to what docs/TRUSTED.md lists.
-- Names by number, as the code writes and finds them. The number of none is one that no cell of a table has.
use Rattle.std.specs.Prelude.{ℕ, zero, suc, ◌+◌, ◌-◌, List, [], ◌∷◌, Bool, cond, get_or, eqb, ltb}
use Rattle.wire.specs.Bytes.{two, word_range}
use Rattle.wire.specs.Writer.{puts, st}
use Rattle.pack_rules.specs.Names.{Name}
use Rattle.pack_rules.specs.Write.{Item, nm, raw}
use Rattle.pack_rules.specs.Limits.{max_name}
use Rattle.machines.specs.EmitAt.{pack_name}
use Rattle.activation_rules.specs.MadeNames.{last_var, sample_var}
use Rattle.activations.specs.Vars.{scope_at}
use Rattle.activations.specs.Lookups.{place_built, place_in}
use Rattle.activations.specs.Ids.{old_or}

-- the number of none
abbrev pub no_number : ℕ
no_number = word_range

-- a pack's bytes, where each name stands in it, how many there are; an activation's name
module _ (s offsets : List ℕ) (names : ℕ) (a : Name) where
  -- the name of a number, as name_of
  unfoldable pub name_t : ℕ → Name
  name_t x = cond (ltb x names) (pack_name s offsets x) (last_var a (pack_name s offsets (x - names)))

  -- what is written of it: an old name's number stays
  unfoldable pub id_items : ℕ → List Item
  id_items x = cond (ltb x names) (raw (two x) ∷ []) (nm (last_var a (pack_name s offsets (x - names))) ∷ [])

  -- the name of its sample in the scope k of n branches
  unfoldable pub sample_name_t : ℕ → ℕ → ℕ → Name
  sample_name_t n k x = sample_var a (scope_at n k) (name_t x)

  -- the number of the sample, where its name is an old one
  unfoldable pub sample_t : List ℕ → Bool → ℕ → ℕ → ℕ → ℕ
  sample_t old made n k x = old_or names (place_built (place_in old) names made (puts (sample_name_t n k x) (st max_name 0 [] []))) no_number

-- the holder's number in the row of v, in n rows of three words from h on
unfoldable pub last_row_t : List ℕ → ℕ → ℕ → ℕ → ℕ
last_row_t lasts v zero h = no_number
last_row_t lasts v (suc n) h = cond (eqb (get_or lasts h 0) v) (get_or lasts (h + 2) 0) (last_row_t lasts v n (h + 3))

-- the same in all rows
unfoldable pub last_id_t : List ℕ → ℕ → ℕ → ℕ
last_id_t lasts rows v = last_row_t lasts v rows 0
