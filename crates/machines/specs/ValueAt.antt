-- Internal: nothing here has to be believed; laws tie it to what docs/TRUSTED.md lists.
-- The value of each output, read from the layout: a chain over the states of a region, in which a state's first covering region
-- goes before its own equation. A right side is copied as it stands in the pack.
use Rattle.std.specs.Option.{is_none, unwrap_or}
use Rattle.std.specs.Prelude.{Option, Some, None, ℕ, zero, suc, ◌+◌, ◌-◌, List, [], ◌∷◌, ◌++◌, cond, ◌&&◌, get_or, eqb}
use Rattle.wire.specs.Bytes.{two}
use Rattle.pack_rules.specs.Limits.{max_level}
use Rattle.pack_rules.specs.Names.{Name}
use Rattle.machine_rules.specs.Resolved.{ResolvedRegions, ResolvedStates, r_cons, r_nil, s_cons, s_nil}
use Rattle.pack_rules.specs.Read.{equation_in, expr_in, port_in}
use Rattle.pack_rules.specs.Write.{Item, raw}
use Rattle.machines.specs.ResolvedIn.{end_of}
use Rattle.machines.specs.CheckedReads.{number_in, with}
use Rattle.machines.specs.Layout.{slice_of}
use Rattle.machines.specs.CoverAt.{some_word, uncovered_t}
use Rattle.machines.specs.EmitAt.{last_or, test_t}

-- names, the pack's bytes, an output by its name's index
module _ (ns : List Name) (s : List ℕ) (out : ℕ) where
  -- where the right side stands of the first of n equations from p on that has the output as its only left name
  unfoldable pub side_from : ℕ → ℕ → Option ℕ
  side_from zero p = None
  side_from (suc n) p = with (number_in s p) λ k o. with (number_in s o) λ i r. cond (eqb k 1 && eqb i out) (Some r) (side_from n (end_of (equation_in ns s p)))

  -- of the equations of the state at the offset `at`
  unfoldable pub side_t : ℕ → Option ℕ
  side_t at = with (number_in s at) λ i p. with (number_in s p) λ n q. side_from n q

  -- the bytes of a right side that stands there; of what stands at 0 where there is none
  unfoldable pub side_of : Option ℕ → List ℕ
  side_of x = slice_of s (unwrap_or x 0) (end_of (expr_in ns s (unwrap_or x 0)) - unwrap_or x 0)

  -- of the state at the offset `at`
  unfoldable pub side_bytes : ℕ → List ℕ
  side_bytes at = side_of (side_t at)

-- words
module _ (t : List ℕ) where
  -- the first of n regions from the word g on that has no answer
  unfoldable pub giving_from : (ℕ → Option ℕ) → ℕ → ℕ → Option ℕ
  giving_from f zero g = None
  giving_from f (suc n) g = cond (is_none (f g)) (some_word g) (giving_from f n (get_or t (g + 4) 0))

  -- the region of the state at the word p that is entered for the output
  unfoldable pub entered_t : (ℕ → Option ℕ) → ℕ → Option ℕ
  entered_t f p = giving_from f (get_or t (p + 5) 0) (p + 6)

  -- by the n states from the word p on of the region at the word q; the last has no test
  unfoldable pub values_t : List ℕ → (ℕ → List Item) → ℕ → ℕ → ℕ → List Item
  values_t qualified f q zero p = []
  values_t qualified f q (suc n) p = last_or n (test_t t qualified q p) (f p) (values_t qualified f q n (get_or t (p + 4) 0))

-- a state's own value, or that of the region that is entered
abbrev pub into : List Item → (ℕ → List Item) → Option ℕ → List Item
into own v None = own
into own v (Some g) = v g

-- the pack's bytes, words, letters, names
module _ (s t qualified : List ℕ) (ns : List Name) where
  module _ (out : ℕ) where
    -- in the state at the word p, by the values and the answers of its regions
    unfoldable pub in_state_t : (ℕ → List Item) → (ℕ → Option ℕ) → ℕ → List Item
    in_state_t v f p = into (raw (side_bytes ns s out (get_or t p 0)) ∷ []) v (entered_t t f p)

    -- in the region at the word q, with so many levels left
    unfoldable pub value_t : ℕ → ℕ → List Item
    value_t zero q = []
    value_t (suc l) q = values_t t qualified (in_state_t (value_t l) (uncovered_t ns s t out l)) q (get_or t (q + 6) 0) (q + 9)

  -- the equation of one output, from the top region
  unfoldable pub output_t : ℕ → List Item
  output_t out = raw (two 1) ∷ raw (two out) ∷ value_t out max_level 0

  -- of n ports from p on, each a name and a type
  unfoldable pub outputs_t : ℕ → ℕ → List Item
  outputs_t zero p = []
  outputs_t (suc n) p = output_t (number_in s p).value ++ outputs_t n (end_of (port_in ns s p))

  -- of the ports at the offset `at`, after their count
  unfoldable pub port_outputs_t : ℕ → List Item
  port_outputs_t at = with (number_in s at) λ n p. outputs_t n p

-- a list of states that is not empty
unfoldable pub Peopled : ResolvedStates → Type 0
Peopled s_nil = ⊥
Peopled (s_cons s es ts rs rest) = Unit {0}

-- no region without states, as the check of initial states has it: then no default is written
unfoldable mutual
  pub WholeS : ResolvedStates → Type 0
  WholeS s_nil = Unit {0}
  WholeS (s_cons s es ts rs rest) = WholeR rs × WholeS rest

  pub WholeR : ResolvedRegions → Type 0
  WholeR r_nil = Unit {0}
  WholeR (r_cons i h ss rest) = Peopled ss × WholeS ss × WholeR rest
