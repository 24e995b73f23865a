-- Laws for the code that checks initial states and targets on the layout, step by step.
use Prim.Native.Nat.{ℕ, zero, suc, ◌+◌, ◌-◌, ◌<◌, ◌≤◌}
use native.Mathlib.Omega.{arith}
use mathlib.Core.List.{List, [], ◌∷◌}
use mathlib.Core.Logic.{⊎_elim}
use mathlib.Core.Bool.{Bool, true, false, cond, ◌||◌}
use mathlib.Core.Path.{◌≡◌, refl, sym, ap, ◌∙◌}
use lib.ListN.{get_or}
use lib.Dec.{eqb}
use types.Run.{OneOf}
use denote.Enum.Declared.{tag_of}
use Rattle.machines.specs.contracts.validate.Checked as Checked-enum
use borrow.Author.Tests.{eq-eqb, ne_eqb}
use Rattle.pack_rules.specs.Names.{Name}
use Rattle.pack_rules.specs.Read.{expr_in}
use Rattle.wire.specs.declared.answer.Number.{Number}
use Rattle.machines.specs.declared.validate.Checked.{Checked}
use Rattle.machines.specs.declared.validate.Checked.TheVariants as ck
use Rattle.machines.specs.ResolvedIn.{end_of}
use Rattle.machines.specs.CheckedReads.{number_in}
use Rattle.machines.specs.ValidateAt.{Has, checked_region, checked_state, each_row, has_t, is_state_t, moves_checked, or_then, targets_t}
use Rattle.machines.proofs.CheckedReadLaws.{on}

module _ (s t : List ℕ) where
  pub among-found : (x n p e : ℕ) (i : Number) (z : Bool) → 0 < n → e ≡ get_or t p 0 → i ≡ number_in s e → i.value ≡ x → is_state_t s t x n p ≡ z → true ≡ z
  unfolding is_state_t
  among-found x zero p e i z l a b c d = absurd (omega arith)
  among-found x (suc n) p e i z l a b c d =
      let f : eqb (number_in s (get_or t p 0)).value x ≡ true = eq-eqb _ x (ap (λ (y : ℕ). (number_in s y).value) (sym a) ∙ ap (λ (y : Number). y.value) (sym b) ∙ c) in
      sym (ap (λ b. b || is_state_t s t x n (get_or t (p + 4) 0)) f) ∙ d

  pub among-went : (x n p e q : ℕ) (i : Number) (z : Bool) → 0 < n → e ≡ get_or t p 0 → i ≡ number_in s e → (i.value ≡ x → ⊥) → q ≡ get_or t (p + 4) 0 → is_state_t s t x n p ≡ z → is_state_t s t x (n - 1) q ≡ z
  unfolding is_state_t
  among-went x zero p e q i z l a b c g d = absurd (omega arith)
  among-went x (suc n) p e q i z l a b c g d =
      let f : eqb (number_in s (get_or t p 0)).value x ≡ false = ne_eqb _ x (λ h. c (ap (λ (y : Number). y.value) b ∙ ap (λ (y : ℕ). (number_in s y).value) a ∙ h)) in
      let m : suc n - 1 ≡ n = omega arith in
      (λ j. is_state_t s t x (m j) (g j)) ∙ sym (ap (λ b. b || is_state_t s t x n (get_or t (p + 4) 0)) f) ∙ d

  pub among-done : (x n p : ℕ) (z : Bool) → n ≤ 0 → is_state_t s t x n p ≡ z → false ≡ z
  unfolding is_state_t
  among-done x zero p z l d = d
  among-done x (suc n) p z l d = absurd (omega arith)

  -- where there are none, it is the same from any word
  pub among-from : (x q n p : ℕ) (r : Bool) → n ≡ get_or t (q + 6) 0 → (0 < get_or t (q + 6) 0 → p ≡ q + 9) → r ≡ is_state_t s t x n p → r ≡ has_t s t q x
  unfolding is_state_t has_t
  among-from x q zero p r a b c = c ∙ ap (λ y. is_state_t s t x y (q + 9)) a
  among-from x q (suc n) p r a b c = c ∙ (λ j. is_state_t s t x (a j) (b (omega arith) j))

-- a target that was found
pub has-now : (s t : List ℕ) (q x : ℕ) (b : Bool) → b ≡ has_t s t q x → b ≡ true → Has s t q x
unfolding Has
has-now s t q x b h e = sym h ∙ e

pub has-told : (s t : List ℕ) (q x : ℕ) → Has s t q x → true ≡ has_t s t q x
unfolding Has
has-told s t q x h = sym h

module _ (ns : List Name) (s t : List ℕ) where
  pub moves-went : (q p n at e : ℕ) (x : Number) (z : Checked) → 0 < n → e ≡ end_of (expr_in ns s at) → x ≡ number_in s e → true ≡ has_t s t q x.value → moves_checked ns s t q p n at ≡ z → moves_checked ns s t q p (n - 1) x.next ≡ z
  unfolding moves_checked has_t
  moves-went q p zero at e x z l a b c d = absurd (omega arith)
  moves-went q p (suc n) at e x z l a b c d =
      let m : suc n - 1 ≡ n = omega arith in
      ap (λ y. moves_checked ns s t q p y x.next) m
      ∙ on x (number_in s (end_of (expr_in ns s at))) (λ y o. cond (has_t s t q y) (moves_checked ns s t q p n o) (ck.Target p q y)) _ (b ∙ ap (number_in s) a) (ap (λ y. cond y (moves_checked ns s t q p n x.next) (ck.Target p q x.value)) c)
      ∙ d

  pub moves-stop : (q p n at e : ℕ) (x : Number) (z : Checked) → 0 < n → e ≡ end_of (expr_in ns s at) → x ≡ number_in s e → false ≡ has_t s t q x.value → moves_checked ns s t q p n at ≡ z → ck.Target p q x.value ≡ z
  unfolding moves_checked has_t
  moves-stop q p zero at e x z l a b c d = absurd (omega arith)
  moves-stop q p (suc n) at e x z l a b c d =
      on x (number_in s (end_of (expr_in ns s at))) (λ y o. cond (has_t s t q y) (moves_checked ns s t q p n o) (ck.Target p q y)) _ (b ∙ ap (number_in s) a) (ap (λ y. cond y (moves_checked ns s t q p n x.next) (ck.Target p q x.value)) c)
      ∙ d

  pub moves-done : (q p n at : ℕ) (z : Checked) → n ≤ 0 → moves_checked ns s t q p n at ≡ z → ck.Fine ≡ z
  unfolding moves_checked
  moves-done q p zero at z l d = d
  moves-done q p (suc n) at z l d = absurd (omega arith)

  pub targets-from : (q p e : ℕ) (c : Number) → e ≡ get_or t (p + 1) 0 → c ≡ number_in s e → moves_checked ns s t q p c.value c.next ≡ targets_t ns s t q p
  unfolding targets_t
  targets-from q p e c a b = on c _ (λ n o. moves_checked ns s t q p n o) _ (b ∙ ap (number_in s) a) refl

-- rows one by one
pub rows-went : (t : List ℕ) (f : ℕ → Checked) (n p q : ℕ) (r z : Checked) → 0 < n → r ≡ f p → r ≡ ck.Fine → q ≡ get_or t (p + 4) 0 → each_row t f n p ≡ z → each_row t f (n - 1) q ≡ z
unfolding each_row or_then
rows-went t f zero p q r z l a b c d = absurd (omega arith)
rows-went t f (suc n) p q r z l a b c d =
    let m : suc n - 1 ≡ n = omega arith in
    (λ j. each_row t f (m j) (c j)) ∙ sym (ap (λ y. or_then y (each_row t f n (get_or t (p + 4) 0))) (sym a ∙ b)) ∙ d

unfoldable pub Stops : Checked → Type 0
Stops ck.Fine = ⊥
Stops (ck.Initial q) = Unit {0}
Stops (ck.Target p q x) = Unit {0}

pub stops : (r : Checked) → OneOf (1 ∷ 2 ∷ []) (tag_of Checked-enum.the_type r) → Stops r
unfolding Stops
stops ck.Fine h = ⊎_elim (λ d. omega arith) (λ d. omega arith) h
stops (ck.Initial q) h = tt
stops (ck.Target p q x) h = tt

pub stop-then : (c d : Checked) → Stops c → c ≡ or_then c d
unfolding Stops or_then
stop-then ck.Fine d h = absurd h
stop-then (ck.Initial q) d h = refl
stop-then (ck.Target p q x) d h = refl

pub rows-stop : (t : List ℕ) (f : ℕ → Checked) (n p : ℕ) (r z : Checked) → 0 < n → r ≡ f p → Stops r → each_row t f n p ≡ z → r ≡ z
unfolding each_row
rows-stop t f zero p r z l a b d = absurd (omega arith)
rows-stop t f (suc n) p r z l a b d = stop-then r _ b ∙ ap (λ y. or_then y (each_row t f n (get_or t (p + 4) 0))) a ∙ d

pub rows-done : (t : List ℕ) (f : ℕ → Checked) (n p : ℕ) (z : Checked) → n ≤ 0 → each_row t f n p ≡ z → ck.Fine ≡ z
unfolding each_row
rows-done t f zero p z l d = d
rows-done t f (suc n) p z l d = absurd (omega arith)

-- where there are none, it is the same from any word
pub rows-from : (t : List ℕ) (f : ℕ → Checked) (m n p q : ℕ) → n ≡ m → (0 < m → p ≡ q) → each_row t f n p ≡ each_row t f m q
unfolding each_row
rows-from t f m zero p q a b = ap (λ y. each_row t f y q) a
rows-from t f m (suc n) p q a b = λ j. each_row t f (a j) (b (omega arith) j)

module _ (ns : List Name) (s t : List ℕ) where
  pub state-stops : (rec : ℕ → Checked) (q p : ℕ) (c : Checked) → c ≡ targets_t ns s t q p → Stops c → c ≡ checked_state ns s t rec q p
  unfolding checked_state
  state-stops rec q p c a b = stop-then c _ b ∙ ap (λ y. or_then y (each_row t rec (get_or t (p + 5) 0) (p + 6))) a

  pub state-goes : (rec : ℕ → Checked) (q p : ℕ) (c z : Checked) → c ≡ targets_t ns s t q p → c ≡ ck.Fine → z ≡ each_row t rec (get_or t (p + 5) 0) (p + 6) → z ≡ checked_state ns s t rec q p
  unfolding checked_state or_then
  state-goes rec q p c z a b d = d ∙ ap (λ y. or_then y (each_row t rec (get_or t (p + 5) 0) (p + 6))) (sym b ∙ a)

  pub region-none : (l q : ℕ) → l ≡ 0 → ck.Fine ≡ checked_region ns s t l q
  unfolding checked_region
  region-none l q e = rw e

  pub region-initial : (l q e : ℕ) → (l ≡ 0 → ⊥) → e ≡ get_or t q 0 → false ≡ has_t s t q e → ck.Initial q ≡ checked_region ns s t l q
  unfolding checked_region
  region-initial zero q e h a b = absurd (h refl)
  region-initial (suc l) q e h a b = ap (λ y. cond y (each_row t (checked_state ns s t (checked_region ns s t l) q) (get_or t (q + 6) 0) (q + 9)) (ck.Initial q)) (b ∙ ap (has_t s t q) a)

  pub region-goes : (l q e : ℕ) (z : Checked) → (l ≡ 0 → ⊥) → e ≡ get_or t q 0 → true ≡ has_t s t q e → z ≡ each_row t (checked_state ns s t (checked_region ns s t (l - 1)) q) (get_or t (q + 6) 0) (q + 9) → z ≡ checked_region ns s t l q
  unfolding checked_region
  region-goes zero q e z h a b d = absurd (h refl)
  region-goes (suc l) q e z h a b d =
      let m : suc l - 1 ≡ l = omega arith in
      d ∙ ap (λ k. each_row t (checked_state ns s t (checked_region ns s t k) q) (get_or t (q + 6) 0) (q + 9)) m
      ∙ ap (λ y. cond y (each_row t (checked_state ns s t (checked_region ns s t l) q) (get_or t (q + 6) 0) (q + 9)) (ck.Initial q)) (b ∙ ap (has_t s t q) a)
