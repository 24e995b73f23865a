-- Internal: nothing here has to be believed; laws tie it to what docs/TRUSTED.md lists.
-- What enums start from, kept in the table of names past their places, as the code fills it.
use Rattle.std.specs.Prelude.{ℕ, ◌+◌, ◌<◌, List, cond, ◌≡◌, get_or, eqb}
use Rattle.pack_rules.specs.Names.{Name}
use Rattle.machines.specs.CheckedReads.{number_in, with}
use Rattle.activations.specs.Cells.{put_t}
use Rattle.activations.specs.Places.{each_of}
use Rattle.activations.specs.TypesAt.{default_word, enum_end, first_variant_t}

-- the first of k variants at p, for the name of index i; nothing where there is none
unfoldable pub kept_t : List ℕ → ℕ → ℕ → ℕ → List ℕ → List ℕ
kept_t s i k p t = cond (eqb k 0) t (put_t t (32768 + i) ((number_in s p).value + 1))

-- that of the enum at p, by its name's index
unfoldable pub first_t : List ℕ → ℕ → List ℕ → List ℕ
first_t s p t = with (number_in s p) λ i q. with (number_in s q) λ k v. kept_t s i k v t

module _ (ns : List Name) (s : List ℕ) (enums : ℕ) where
  -- those of all enums, each over what was kept for its name before
  unfoldable pub firsts_t : List ℕ → List ℕ
  firsts_t t = with (number_in s enums) λ n p. each_of (first_t s) (enum_end ns s) n p t

  -- the table has what a search through all enums finds
  unfoldable pub FirstsAre : List ℕ → Type 0
  FirstsAre t = (x : ℕ) → x < 17408 → default_word (get_or t (32768 + x) 0) ≡ first_variant_t ns s enums x
