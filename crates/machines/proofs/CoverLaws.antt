-- Laws for the code that looks for coverage, step by step.
use Prim.Native.Nat.{ℕ, zero, suc, ◌+◌, ◌-◌, ◌<◌, ◌≤◌}
use native.Mathlib.Omega.{arith}
use mathlib.Core.List.{List}
use mathlib.Core.Bool.{Bool, true, false, ◌&&◌, ◌||◌, not, true≢false}
use mathlib.Core.Path.{◌≡◌, refl, sym, ap, ◌∙◌}
use lib.ListN.{get_or}
use lib.Dec.{eqb}
use borrow.Author.Tests.{eq-eqb, ne_eqb}
use Rattle.std.specs.Option.{is_none, is_some, option_and, option_or}
use Rattle.std.specs.Prelude.{Option as Maybe, Some, None}
use Rattle.pack_rules.specs.Names.{Name}
use Rattle.pack_rules.specs.Read.{equation_in}
use Rattle.machines.specs.declared.cover.OnlyLeft.{OnlyLeft}
use Rattle.wire.specs.declared.answer.Number.{Number}
use Rattle.machines.specs.ResolvedIn.{end_of}
use Rattle.machines.specs.CheckedReads.{number_in, with}
use Rattle.machines.specs.CoverAt.{all_miss, asked, assigned, first_miss, gives_t, miss_t, own_t, some_word, tells, uncovered_t}
use Rattle.machines.proofs.CheckedReadLaws.{on}

-- the loop over a state's equations: one that does not give the output, one that does, and the end
module _ (k : ℕ → OnlyLeft) where
  pub tells-went : (n at : ℕ) (e : OnlyLeft) (z : Bool) → 0 < n → e ≡ k at → e.yes ≡ false → (tells k ◌||◌ n at false).yes ≡ z → (tells k ◌||◌ (n - 1) e.next false).yes ≡ z
  unfolding tells asked
  tells-went zero at e z l g h d = absurd (omega arith)
  tells-went (suc n) at e z l g h d =
      let i : suc n - 1 ≡ n = omega arith in
      rw i (ap (λ (y : Bool). (tells k ◌||◌ n e.next y).yes) (sym h) ∙ ap (λ (y : OnlyLeft). (tells k ◌||◌ n y.next y.yes).yes) g ∙ d)

  tells-yes : (n at : ℕ) → (tells k ◌||◌ n at true).yes ≡ true
  unfolding tells asked
  tells-yes zero at = refl
  tells-yes (suc n) at = tells-yes n (k at).next

  pub tells-found : (n at : ℕ) (e : OnlyLeft) (z : Bool) → 0 < n → e ≡ k at → e.yes ≡ true → (tells k ◌||◌ n at false).yes ≡ z → true ≡ z
  unfolding tells asked
  tells-found zero at e z l g h d = absurd (omega arith)
  tells-found (suc n) at e z l g h d =
      sym (tells-yes n e.next) ∙ ap (λ (y : Bool). (tells k ◌||◌ n e.next y).yes) (sym h) ∙ ap (λ (y : OnlyLeft). (tells k ◌||◌ n y.next y.yes).yes) g ∙ d

  -- what one of the others gives, all give
  pub tells-rest : (n at q : ℕ) → 0 < n → q ≡ (k at).next → (tells k ◌||◌ (n - 1) q false).yes ≡ true → (tells k ◌||◌ n at false).yes ≡ true
  unfolding tells asked
  tells-rest zero at q l e d = absurd (omega arith)
  tells-rest (suc n) at q l e d =
      let i : suc n - 1 ≡ n = omega arith in
      go (k at).yes ((λ j. (tells k ◌||◌ (sym i j) (sym e j) false).yes) ∙ d)
    where
      go : (b : Bool) → (tells k ◌||◌ n (k at).next false).yes ≡ true → (tells k ◌||◌ n (k at).next b).yes ≡ true
      go true h = tells-yes n (k at).next
      go false h = h

  pub tells-done : (n at : ℕ) (z : Bool) → n ≤ 0 → (tells k ◌||◌ n at false).yes ≡ z → false ≡ z
  unfolding tells
  tells-done zero at z l d = d
  tells-done (suc n) at z l d = absurd (omega arith)

module _ (ns : List Name) (s : List ℕ) where
  pub gives-is : (out at q : ℕ) (k i : Number) (x y r : Bool) → k ≡ number_in s at → i ≡ number_in s k.next → q ≡ end_of (equation_in ns s at) → x ≡ eqb k.value 1 → y ≡ eqb i.value out → r ≡ (x && y) → assigned r q ≡ gives_t ns s out at
  unfolding gives_t
  gives-is out at q k i x y r a b c d e f =
      on k _ _ _ a (on i _ _ _ b (ap (λ z. assigned z q) (f ∙ ap (λ z. z && y) d ∙ ap (λ z. eqb k.value 1 && z) e) ∙ ap (assigned (eqb k.value 1 && eqb i.value out)) c))

  -- where an equation ends does not depend on the output
  pub gives-next : (out x at : ℕ) (e : OnlyLeft) → e ≡ gives_t ns s out at → e.next ≡ (gives_t ns s x at).next
  unfolding gives_t with
  gives-next out x at e h = ap (λ (y : OnlyLeft). y.next) h

  pub own_is : (out at : ℕ) (i t : Number) (a : Bool) → i ≡ number_in s at → t ≡ number_in s i.next → a ≡ (tells (gives_t ns s out) ◌||◌ t.value t.next false).yes → a ≡ own_t ns s out at
  unfolding own_t
  own_is out at i t a x y z = on i _ _ _ x (on t _ _ _ y z)

-- an answer that there is, and one that there is not
or-none : (x y : Maybe ℕ) → is_some x ≡ false → option_or x y ≡ y
or-none None y e = refl
or-none (Some m) y e = absurd (true≢false e)

or-some : (x y : Maybe ℕ) → is_some x ≡ true → option_or x y ≡ x
or-some None y e = absurd (true≢false (sym e))
or-some (Some m) y e = refl

and-none : (x y : Maybe ℕ) → is_none x ≡ true → option_and x y ≡ None
and-none None y e = refl
and-none (Some m) y e = absurd (true≢false (sym e))

and-some : (x y : Maybe ℕ) → is_none x ≡ false → option_and x y ≡ y
and-some None y e = absurd (true≢false e)
and-some (Some m) y e = refl

pub none-told : (x : Maybe ℕ) (a b : Bool) → is_some x ≡ not a → a ≡ b → is_none x ≡ b
none-told x true b e h = ap not e ∙ h
none-told x false b e h = ap not e ∙ h

pub no-answer : (x : Maybe ℕ) → is_some x ≡ false → x ≡ None
no-answer None e = refl
no-answer (Some m) e = absurd (true≢false e)

-- a word past the top region's is an answer
pub word-some : (p : ℕ) → 0 < p → Some p ≡ some_word p
unfolding some_word
word-some p h = rw (ne_eqb p 0 (λ z. omega arith)) refl

-- the loop over states: one that gives the output, one that does not, and the end
module _ (t : List ℕ) (f : ℕ → Maybe ℕ) where
  pub first-went : (n p : ℕ) (m : Maybe ℕ) (b : Bool) (r : ℕ) (z : Maybe ℕ) → 0 < n → m ≡ f p → b ≡ is_some m → b ≡ false → r ≡ get_or t (p + 4) 0 → first_miss t f n p ≡ z → first_miss t f (n - 1) r ≡ z
  unfolding first_miss
  first-went zero p m b r z l e k h g d = absurd (omega arith)
  first-went (suc n) p m b r z l e k h g d =
      let i : suc n - 1 ≡ n = omega arith in
      ap (λ (y : ℕ). first_miss t f y r) i ∙ ap (first_miss t f n) g
      ∙ sym (or-none (f p) (first_miss t f n (get_or t (p + 4) 0)) (ap is_some (sym e) ∙ sym k ∙ h)) ∙ d

  pub first_found : (n p : ℕ) (m : Maybe ℕ) (b : Bool) (z : Maybe ℕ) → 0 < n → m ≡ f p → b ≡ is_some m → b ≡ true → first_miss t f n p ≡ z → m ≡ z
  unfolding first_miss
  first_found zero p m b z l e k h d = absurd (omega arith)
  first_found (suc n) p m b z l e k h d =
      e ∙ sym (or-some (f p) (first_miss t f n (get_or t (p + 4) 0)) (ap is_some (sym e) ∙ sym k ∙ h)) ∙ d

  pub first_done : (n p : ℕ) (z : Maybe ℕ) → n ≤ 0 → first_miss t f n p ≡ z → None ≡ z
  unfolding first_miss
  first_done zero p z l d = d
  first_done (suc n) p z l d = absurd (omega arith)

  -- where the states start matters only where there is one
  first-start : (n p r : ℕ) → (0 < n → p ≡ r) → first_miss t f n p ≡ first_miss t f n r
  unfolding first_miss
  first-start zero p r h = refl
  first-start (suc n) p r h = ap (first_miss t f (suc n)) (h (omega arith))

  pub first-from : (k n p r : ℕ) → k ≡ n → (0 < n → p ≡ r) → first_miss t f k p ≡ first_miss t f n r
  first-from k n p r e h = ap (λ (y : ℕ). first_miss t f y p) e ∙ first-start n p r h

  -- the loop over regions: one that does not give the output, one that does, and the end
  pub all-went : (n g : ℕ) (m v k : Maybe ℕ) (b : Bool) (r : ℕ) (z : Maybe ℕ) → 0 < n → m ≡ f g → is_some m ≡ not b → b ≡ false → k ≡ option_or v m → r ≡ get_or t (g + 4) 0 → all_miss t f n g v ≡ z → all_miss t f (n - 1) r k ≡ z
  unfolding all_miss
  all-went zero g m v k b r z l e c h a w d = absurd (omega arith)
  all-went (suc n) g m v k b r z l e c h a w d =
      let i : suc n - 1 ≡ n = omega arith in
      ap (λ (y : ℕ). all_miss t f y r k) i
      ∙ (λ j. all_miss t f n (w j) ((a ∙ ap (option_or v) e) j))
      ∙ sym (and-some (f g) (all_miss t f n (get_or t (g + 4) 0) (option_or v (f g))) (ap is_none (sym e) ∙ none-told m _ _ c h)) ∙ d

  pub all-given : (n g : ℕ) (m v : Maybe ℕ) (b : Bool) (z : Maybe ℕ) → 0 < n → m ≡ f g → is_some m ≡ not b → b ≡ true → all_miss t f n g v ≡ z → None ≡ z
  unfolding all_miss
  all-given zero g m v b z l e c h d = absurd (omega arith)
  all-given (suc n) g m v b z l e c h d =
      sym (and-none (f g) (all_miss t f n (get_or t (g + 4) 0) (option_or v (f g))) (ap is_none (sym e) ∙ none-told m _ _ c h)) ∙ d

  pub all_done : (n g : ℕ) (v z : Maybe ℕ) → n ≤ 0 → all_miss t f n g v ≡ z → v ≡ z
  unfolding all_miss
  all_done zero g v z l d = d
  all_done (suc n) g v z l d = absurd (omega arith)

-- a state that gives the output itself, one without regions, one with regions; a region
module _ (ns : List Name) (s t : List ℕ) (out : ℕ) where
  own_at : (at p : ℕ) (o b : Bool) → at ≡ get_or t p 0 → o ≡ own_t ns s out at → o ≡ b → own_t ns s out (get_or t p 0) ≡ b
  own_at at p o b e f g = ap (own_t ns s out) (sym e) ∙ sym f ∙ g

  pub state-own : (f : ℕ → Maybe ℕ) (at p : ℕ) (o : Bool) → at ≡ get_or t p 0 → o ≡ own_t ns s out at → o ≡ true → None ≡ miss_t ns s t out f p
  unfolding miss_t
  state-own f at p o a b g = rw (own_at at p o true a b g) refl

  pub state-alone : (f : ℕ → Maybe ℕ) (at p n : ℕ) (o : Bool) → at ≡ get_or t p 0 → o ≡ own_t ns s out at → o ≡ false → n ≡ get_or t (p + 5) 0 → n ≡ 0 → some_word p ≡ miss_t ns s t out f p
  unfolding miss_t
  state-alone f at p n o a b g e h = rw (own_at at p o false a b g, eq-eqb (get_or t (p + 5) 0) 0 (sym e ∙ h)) refl

  pub state-regions : (f : ℕ → Maybe ℕ) (at p n g : ℕ) (o : Bool) → at ≡ get_or t p 0 → o ≡ own_t ns s out at → o ≡ false → n ≡ get_or t (p + 5) 0 → (n ≡ 0 → ⊥) → (0 < get_or t (p + 5) 0 → g ≡ p + 6) → all_miss t f n g None ≡ miss_t ns s t out f p
  unfolding miss_t
  state-regions f at p n g o a b c e h d =
      rw (own_at at p o false a b c, ne_eqb (get_or t (p + 5) 0) 0 (λ z. h (e ∙ z)))
      (let l : 0 < get_or t (p + 5) 0 = omega arith in λ i. all_miss t f (e i) (d l i) None)

  pub uncovered-none : (l q : ℕ) → l ≡ 0 → None ≡ uncovered_t ns s t out l q
  unfolding uncovered_t
  uncovered-none l q e = rw e

  pub uncovered-some : (l q k p : ℕ) → (l ≡ 0 → ⊥) → k ≡ get_or t (q + 6) 0 → (0 < get_or t (q + 6) 0 → p ≡ q + 9) → first_miss t (miss_t ns s t out (uncovered_t ns s t out (l - 1))) k p ≡ uncovered_t ns s t out l q
  unfolding uncovered_t
  uncovered-some zero q k p h e g = absurd (h refl)
  uncovered-some (suc l) q k p h e g =
      let i : suc l - 1 ≡ l = omega arith in
      ap (λ (y : ℕ). first_miss t (miss_t ns s t out (uncovered_t ns s t out y)) k p) i
      ∙ first-from t (miss_t ns s t out (uncovered_t ns s t out l)) k (get_or t (q + 6) 0) p (q + 9) e g
