-- Internal: nothing here has to be believed; laws tie it to what docs/TRUSTED.md lists.
-- The report of all machines, as the code writes it: a refused machine is judged again for its entry.
use Rattle.std.specs.Prelude.{ℕ, zero, suc, ◌+◌, ◌<◌, ◌≤◌, List, [], ◌++◌, cond, ◌≡◌, length, get_or, eqb, Ok, Err}
use Rattle.pack_rules.specs.Limits.{absent}
use Rattle.pack_rules.specs.Names.{Name}
use Rattle.machines.specs.declared.verdicts.Refusal.TheVariants as no
use Rattle.machines.specs.declared.verdicts.VerdictRow.{VerdictRow}
use Rattle.machines.specs.CheckedReads.{number_in}
use Rattle.machines.specs.ReportEntries.{entry_bytes}
use Rattle.machines.specs.VerdictAt.{Judged, board_at, judge_at, no_name, refused_by, row_of}
use Rattle.machines.specs.EmitMachineAt.{Long}

-- bytes of n indexes from i on
unfoldable pub bytes_t : (ℕ → List ℕ) → ℕ → ℕ → List ℕ
bytes_t f zero i = []
bytes_t f (suc n) i = f i ++ bytes_t f n (suc i)

-- only those of refused machines
unfoldable pub of_refused : List ℕ → (ℕ → List ℕ) → ℕ → List ℕ
of_refused receivers f i = cond (eqb (get_or receivers i 0) absent) (f i) []

-- what an entry says of a machine by what is judged of it: of an accepted one the kind 0, and no name but its own
unfoldable pub judged_row : Judged → VerdictRow
judged_row (Ok n) = refused_by 0 no_name no_name
judged_row (Err w) = row_of w

-- the entry of a machine of the name m, by what is judged of it
unfoldable pub judged_bytes : List ℕ → List ℕ → List ℕ → ℕ → Judged → List ℕ
judged_bytes s offsets qualified m j = entry_bytes s offsets qualified m (judged_row j)

module _ (ns : List Name) (s offsets to defs regcounts : List ℕ) where
  -- why the machine i is refused, with the letters of its names: where it has regions, its owner is not there
  unfoldable pub refusal_t : ℕ → List ℕ → List ℕ → List ℕ → Judged
  refusal_t i t reg qualified =
      cond (eqb (get_or regcounts i 0) 0) (judge_at ns s offsets to (get_or defs i 0) t reg qualified)
      (Err (no.UnknownOwner (number_in s (number_in s (get_or defs i 0)).next).value))

  unfoldable pub letters_t : ℕ → List ℕ → List ℕ → List ℕ → List ℕ
  letters_t i t reg qualified = cond (eqb (get_or regcounts i 0) 0) (board_at ns s offsets to (get_or defs i 0) t reg qualified).qualified qualified

  -- its entry
  unfoldable pub entry_t : ℕ → List ℕ → List ℕ → List ℕ → List ℕ
  entry_t i t reg qualified = judged_bytes s offsets (letters_t i t reg qualified) (number_in s (get_or defs i 0)).value (refusal_t i t reg qualified)

  -- the same, and nothing where the machine is not refused
  unfoldable pub refused_entry_t : List ℕ → ℕ → List ℕ → List ℕ → List ℕ → List ℕ
  refused_entry_t receivers i t reg qualified = cond (eqb (get_or receivers i 0) absent) (entry_t i t reg qualified) []

  -- the entry of the machine i, if it is refused, is this, whatever long tables held before; of n machines
  unfoldable pub Enters : List ℕ → ℕ → List ℕ → Type 0
  Enters receivers i e = get_or receivers i 0 ≡ absent → (t reg qualified : List ℕ) → Long t reg qualified → entry_t i t reg qualified ≡ e

  abbrev pub EntersAll : List ℕ → ℕ → (ℕ → List ℕ) → Type 0
  EntersAll receivers n es = (i : ℕ) → i < n → Enters receivers i (es i)

-- from `at` on there is room for the entry of the machine i
pub record RoomAt (s offsets to defs regcounts receivers t reg qualified : List ℕ) (names i at room : ℕ) : Type 0 where
  pub ns : List Name
  pub count : length ns ≡ names
  pub fits : at + length (refused_entry_t ns s offsets to defs regcounts receivers i t reg qualified) ≤ room

-- there is room for the report of n machines
pub record RoomForAll (s offsets to defs regcounts receivers : List ℕ) (names n room : ℕ) : Type 0 where
  pub ns : List Name
  pub count : length ns ≡ names
  pub es : ℕ → List ℕ
  pub enters : EntersAll ns s offsets to defs regcounts receivers n es
  pub fits : 2 + length (bytes_t (of_refused receivers es) n 0) ≤ room
