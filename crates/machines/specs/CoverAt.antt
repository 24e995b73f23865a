-- Internal: nothing here has to be believed; laws tie it to what docs/TRUSTED.md lists.
-- Coverage of an output: whether a state's own equations give it, on bytes; and which state of the layout does not give it,
-- structural on the levels left.
use Rattle.std.specs.Option.{option_and, option_or}
use Rattle.std.specs.Prelude.{Option as Maybe, Some, None, ℕ, zero, suc, ◌+◌, List, Bool, false, cond, ◌&&◌, ◌||◌, get_or, eqb}
use Rattle.std.proofs.Math.Option.{Option, none, some}
use Rattle.pack_rules.specs.Names.{Name}
use Rattle.pack_rules.specs.Read.{equation_in}
use Rattle.machines.specs.declared.cover.OnlyLeft.{OnlyLeft}
use Rattle.machines.specs.ResolvedIn.{end_of}
use Rattle.machines.specs.CheckedReads.{number_in, with}
use Rattle.machines.specs.EmitAt.{letters_at}

-- an answer, yes or no, and the offset after what was asked
abbrev pub assigned : Bool → ℕ → OnlyLeft
assigned b q = record { yes = b; next = q }

-- what is made of an answer and the offset after it
unfoldable pub asked : {A : Type 0} → OnlyLeft → (Bool → ℕ → A) → A
asked x k = k x.yes x.next

-- n things from `at` on, each told, gathered from the left
unfoldable pub tells : (ℕ → OnlyLeft) → (Bool → Bool → Bool) → ℕ → ℕ → Bool → OnlyLeft
tells r f zero at a = assigned a at
tells r f (suc n) at a = asked (r at) λ v p. tells r f n p (f a v)

module _ (ns : List Name) (s : List ℕ) where
  -- whether `out` is an equation's only left name
  unfoldable pub gives_t : ℕ → ℕ → OnlyLeft
  gives_t out at = with (number_in s at) λ k p. with (number_in s p) λ i q. assigned (eqb k 1 && eqb i out) (end_of (equation_in ns s at))

  -- whether an equation of the state at `at` gives `out`
  unfoldable pub own_t : ℕ → ℕ → Bool
  own_t out at = with (number_in s at) λ i p. with (number_in s p) λ n q. (tells (gives_t out) ◌||◌ n q false).yes

-- the word p as an answer: the word 0, the top region's, is none
unfoldable pub some_word : ℕ → Maybe ℕ
some_word p = cond (eqb p 0) None (Some p)

module _ (t : List ℕ) where
  -- the answer of n states from the word p on: the first that there is
  unfoldable pub first_miss : (ℕ → Maybe ℕ) → ℕ → ℕ → Maybe ℕ
  first_miss f zero p = None
  first_miss f (suc n) p = option_or (f p) (first_miss f n (get_or t (p + 4) 0))

  -- the answer of a state by n regions from the word g on, after others with the answer `miss`: none where one of them has none,
  -- else the first
  unfoldable pub all_miss : (ℕ → Maybe ℕ) → ℕ → ℕ → Maybe ℕ → Maybe ℕ
  all_miss f zero g miss = miss
  all_miss f (suc n) g miss = option_and (f g) (all_miss f n (get_or t (g + 4) 0) (option_or miss (f g)))

-- names, the pack's bytes, words, an output by its name's index: the answer is the word of a state that does not give it, if there is one
module _ (ns : List Name) (s t : List ℕ) (out : ℕ) where
  -- of the state at the word p, by the answers of its regions
  unfoldable pub miss_t : (ℕ → Maybe ℕ) → ℕ → Maybe ℕ
  miss_t f p = cond (own_t ns s out (get_or t p 0)) None (cond (eqb (get_or t (p + 5) 0) 0) (some_word p) (all_miss t f (get_or t (p + 5) 0) (p + 6) None))

  -- of the region at the word q, with so many levels left
  unfoldable pub uncovered_t : ℕ → ℕ → Maybe ℕ
  uncovered_t zero q = None
  uncovered_t (suc l) q = first_miss t (miss_t (uncovered_t l)) (get_or t (q + 6) 0) (q + 9)

-- the state that an answer names: none, or the one at that word
unfoldable pub missed : List ℕ → List ℕ → Maybe ℕ → Option Name
missed t qualified None = none
missed t qualified (Some p) = some (letters_at t qualified p)
