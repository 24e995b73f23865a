-- Internal: nothing here has to be believed; laws tie it to what docs/TRUSTED.md lists.
-- What is written for the regions of a machine, read from its layout: the items of enums and of equations. A guard is
-- copied as it stands in the pack.
use Rattle.std.specs.Prelude.{ℕ, zero, suc, ◌+◌, ◌-◌, List, [], ◌∷◌, ◌++◌, cond, get_or, eqb}
use Rattle.wire.specs.Bytes.{two}
use Rattle.pack_rules.specs.Names.{Name}
use Rattle.pack.specs.RawNames.{raw_name}
use Rattle.pack_rules.specs.Syntax.{e_var}
use Rattle.pack_rules.specs.Forms.{flag_of}
use Rattle.pack_rules.specs.Read.{expr_in}
use Rattle.pack_rules.specs.Write.{Item, equation_items, expr_items, list, name_items, nm, raw}
use Rattle.machine_rules.specs.MadeNames.{active_var, enum_name, next_var, state_var}
use Rattle.machines.specs.ResolvedIn.{end_of}
use Rattle.machines.specs.CheckedReads.{number_in, with}
use Rattle.machines.specs.Layout.{prefix_of, slice_of}
use Rattle.machine_rules.specs.Lower.{is_name}
use Rattle.machines.specs.Equations.{active_equation, state_equation}

-- the name of an index, where the table says that it stands
unfoldable pub pack_name : List ℕ → List ℕ → ℕ → Name
pack_name s offsets x = raw_name s (get_or offsets x 0)

-- a part of a conditional chain with n parts after it: the last has no test
unfoldable pub last_or : ℕ → List Item → List Item → List Item → List Item
last_or zero test value chain = value
last_or (suc n) test value chain = test ++ (value ++ chain)

-- words, letters
module _ (t qualified : List ℕ) where
  -- the letters of a row: a state's name; the name of the refined state whose region this is
  unfoldable pub letters_at : ℕ → Name
  letters_at p = slice_of qualified (get_or t (p + 2) 0) (get_or t (p + 3) 0)

  -- whether the region at the word q is in the state at the word p, as the test of a conditional
  unfoldable pub test_t : ℕ → ℕ → List Item
  test_t q p = raw (4 ∷ []) ∷ expr_items (is_name (state_var (get_or t (q + 5) 0)) (letters_at p))

  -- the names of n states from the word p on
  unfoldable pub variants_t : ℕ → ℕ → List Item
  variants_t zero p = []
  variants_t (suc n) p = nm (letters_at p) ∷ variants_t n (get_or t (p + 4) 0)

  -- the enum of the region at the word q
  unfoldable pub enum_t : Name → ℕ → List Item
  enum_t m q = nm (enum_name m (get_or t (q + 5) 0)) ∷ raw (two (get_or t (q + 6) 0)) ∷ variants_t (get_or t (q + 6) 0) (q + 9)

  -- the enums of n regions, from the id i on
  unfoldable pub enums_t : List ℕ → Name → ℕ → ℕ → List Item
  enums_t reg m i zero = []
  enums_t reg m i (suc n) = enum_t m (get_or reg i 0) ++ enums_t reg m (suc i) n

-- the pack, where its names stand, words, letters
module _ (s offsets t qualified : List ℕ) where
  -- the name x of the pack as it is called in the region at the word q
  unfoldable pub in_region : ℕ → ℕ → Name
  in_region q x = prefix_of (letters_at t qualified q) ++ pack_name s offsets x

  -- one transition: its guard stands from `at` to e, x is its target
  unfoldable pub move_t : ℕ → ℕ → ℕ → ℕ → List Item
  move_t q at e x = raw (4 ∷ []) ∷ raw (slice_of s at (e - at)) ∷ raw (1 ∷ []) ∷ nm (in_region q x) ∷ []

  -- a region's state: its initial one stands in the layout as it is called in the pack
  unfoldable pub state_t : ℕ → List Item
  state_t q = equation_items (state_equation (get_or t (q + 5) 0) (in_region q (get_or t q 0)) (flag_of (get_or t (q + 1) 0)))

  -- and the pack's names
  module _ (ns : List Name) where
    -- n transitions from `at` on; where none is taken the state stays
    unfoldable pub moves_t : ℕ → ℕ → ℕ → List Item
    moves_t q zero at = expr_items (e_var (state_var (get_or t (q + 5) 0)))
    moves_t q (suc n) at =
        with (number_in s (end_of (expr_in ns s at))) λ x o. move_t q at (end_of (expr_in ns s at)) x ++ moves_t q n o

    -- the transitions of the state at the word p
    unfoldable pub transitions_t : ℕ → ℕ → List Item
    transitions_t q p = with (number_in s (get_or t (p + 1) 0)) λ n o. moves_t q n o

    -- the next state, by the n states from the word p on
    unfoldable pub chain_t : ℕ → ℕ → ℕ → List Item
    chain_t q zero p = expr_items (e_var (state_var (get_or t (q + 5) 0)))
    chain_t q (suc n) p =
        last_or n (test_t t qualified q p) (transitions_t q p) (chain_t q n (get_or t (p + 4) 0))

    -- a region's next state: an inner region that is not active stays
    unfoldable pub next_rhs_t : ℕ → List Item
    next_rhs_t q =
        cond (eqb (get_or t (q + 5) 0) 0) (chain_t q (get_or t (q + 6) 0) (q + 9))
        (raw (4 ∷ []) ∷ (expr_items (e_var (active_var (get_or t (q + 5) 0))) ++ (chain_t q (get_or t (q + 6) 0) (q + 9) ++ expr_items (e_var (state_var (get_or t (q + 5) 0))))))

    -- and the equation of it
    unfoldable pub next_t : ℕ → List Item
    next_t q = list name_items (next_var (get_or t (q + 5) 0) ∷ []) ++ next_rhs_t q

-- whether the region at the word q is active; of the top region nothing is said
unfoldable pub active_t : List ℕ → List ℕ → ℕ → List Item
active_t t qualified q =
    cond (eqb (get_or t (q + 5) 0) 0) []
    (equation_items (active_equation (get_or t (q + 5) 0) (eqb (get_or t (q + 8) 0) 0) (get_or t (q + 8) 0) (letters_at t qualified (get_or t (q + 7) 0))))

module _ (s offsets t qualified : List ℕ) (ns : List Name) where
  -- the equations of the region at the word q
  unfoldable pub region_t : ℕ → List Item
  region_t q = active_t t qualified q ++ (state_t s offsets t qualified q ++ next_t s offsets t qualified ns q)

  -- the equations of n regions, from the id i on
  unfoldable pub regions_t : List ℕ → ℕ → ℕ → List Item
  regions_t reg i zero = []
  regions_t reg i (suc n) = region_t (get_or reg i 0) ++ regions_t reg (suc i) n
