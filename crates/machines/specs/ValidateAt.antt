-- Internal: nothing here has to be believed; laws tie it to what docs/TRUSTED.md lists.
-- The checks of initial states and targets on the layout: what the code does, structural on the levels left.
use Rattle.std.specs.Prelude.{ℕ, zero, suc, ◌+◌, ◌-◌, List, Bool, true, false, cond, ◌&&◌, ◌||◌, ◌≡◌, length, get_or, eqb, Option, Some, None, IfSome}
use Rattle.pack_rules.specs.Names.{Name}
use Rattle.pack_rules.specs.Read.{expr_in}
use Rattle.machines.specs.declared.validate.Checked.{Checked}
use Rattle.machines.specs.declared.validate.Checked.TheVariants as ck
use Rattle.machines.specs.declared.validate.TargetMemo.{TargetMemo}
use Rattle.machines.specs.ResolvedIn.{end_of, over_in}
use Rattle.machines.specs.CheckedReads.{number_in, with}
use Rattle.machines.specs.LayoutAt.{moves_at}

-- what goes on where nothing is wrong
unfoldable pub or_then : Checked → Checked → Checked
or_then ck.Fine c = c
or_then (ck.Initial q) c = ck.Initial q
or_then (ck.Target p q x) c = ck.Target p q x

-- what is foreseen of the targets of a region's states from one on: the next `fine` ones have none that is wrong, the one after
-- them has one, with this name. Where nothing is known, this says nothing.
abbrev pub recalled : ℕ → ℕ → TargetMemo
recalled n x = record { fine = n; name = x }

-- after one state less is known, after the one with a wrong target nothing
unfoldable pub onward : Option TargetMemo → Option TargetMemo
onward None = None
onward (Some v) = cond (eqb v.fine 0) None (Some (recalled (v.fine - 1) v.name))

-- what checking the targets of that one comes to, if it is at the word p in the region at the word q
unfoldable pub recall_t : TargetMemo → ℕ → ℕ → Checked
recall_t v q p = cond (eqb v.fine 0) (ck.Target p q v.name) ck.Fine

-- n rows from the word p on, each with the word after it at its fifth
unfoldable pub each_row : List ℕ → (ℕ → Checked) → ℕ → ℕ → Checked
each_row t f zero p = ck.Fine
each_row t f (suc n) p = or_then (f p) (each_row t f n (get_or t (p + 4) 0))

-- the pack's bytes, words
module _ (s t : List ℕ) where
  -- one of n states from the word p on has the name of index x
  unfoldable pub is_state_t : ℕ → ℕ → ℕ → Bool
  is_state_t x zero p = false
  is_state_t x (suc n) p = eqb (number_in s (get_or t p 0)).value x || is_state_t x n (get_or t (p + 4) 0)

  -- so has a state of the region at the word q
  unfoldable pub has_t : ℕ → ℕ → Bool
  has_t q x = is_state_t x (get_or t (q + 6) 0) (q + 9)

-- a state of the region at the word q has the name of index x
unfoldable pub Has : List ℕ → List ℕ → ℕ → ℕ → Type 0
Has s t q x = has_t s t q x ≡ true

module _ (ns : List Name) (s t : List ℕ) where
  -- n transitions from `at` on, of the state at the word p in the region at the word q
  unfoldable pub moves_checked : ℕ → ℕ → ℕ → ℕ → Checked
  moves_checked q p zero at = ck.Fine
  moves_checked q p (suc n) at =
      with (number_in s (end_of (expr_in ns s at))) λ x o. cond (has_t s t q x) (moves_checked q p n o) (ck.Target p q x)

  -- all transitions of that state
  unfoldable pub targets_t : ℕ → ℕ → Checked
  targets_t q p = with (number_in s (get_or t (p + 1) 0)) λ n o. moves_checked q p n o

  -- a state's targets, then its regions
  unfoldable pub checked_state : (ℕ → Checked) → ℕ → ℕ → Checked
  checked_state rec q p = or_then (targets_t q p) (each_row t rec (get_or t (p + 5) 0) (p + 6))

  -- a region's initial state, then its states
  unfoldable pub checked_region : ℕ → ℕ → Checked
  checked_region zero q = ck.Fine
  checked_region (suc l) q =
      cond (has_t s t q (get_or t q 0)) (each_row t (checked_state (checked_region l) q) (get_or t (q + 6) 0) (q + 9)) (ck.Initial q)

  -- the row at the word p is that of the state drawn at `at`
  unfoldable pub row_drawn : ℕ → ℕ → Bool
  row_drawn p at = eqb (get_or t p 0) at && eqb (get_or t (p + 1) 0) (moves_at ns s at)

  -- n rows from the word p on are those of the states drawn one after the other from `at` on
  unfoldable pub rows_drawn : ℕ → ℕ → ℕ → Bool
  rows_drawn zero p at = true
  rows_drawn (suc n) p at = row_drawn p at && rows_drawn n (get_or t (p + 4) 0) (over_in ns s at)

  -- what is foreseen of the targets of n states from the word p on, in the region at the word q, is so
  unfoldable pub AsRecalled : Option TargetMemo → ℕ → ℕ → ℕ → Type 0
  AsRecalled v q zero p = Unit {0}
  AsRecalled v q (suc n) p = IfSome v (λ m. targets_t q p ≡ recall_t m q p) × AsRecalled (onward v) q n (get_or t (p + 4) 0)

-- the same of one state, and of n states, whatever the names are
abbrev pub OneRecalled : List ℕ → ℕ → List ℕ → Option TargetMemo → ℕ → ℕ → Type 0
OneRecalled s names t v q p = (ns : List Name) → length ns ≡ names → IfSome v (λ m. targets_t ns s t q p ≡ recall_t m q p)

abbrev pub AllRecalled : List ℕ → ℕ → List ℕ → Option TargetMemo → ℕ → ℕ → ℕ → Type 0
AllRecalled s names t v q n p = (ns : List Name) → length ns ≡ names → AsRecalled ns s t v q n p
