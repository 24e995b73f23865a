-- Marks of names: the steps that look for their halves, and that a name with another half is another name, whichever function of the
-- name a half is.
use Prim.Native.Nat.{ℕ, zero, suc, ◌+◌, ◌-◌, ◌≤◌, ◌<◌, min}
use native.Mathlib.Numerals.{add-one}
use native.Mathlib.Omega.{arith}
use mathlib.Core.List.{List, [], ◌∷◌, ◌++◌}
use mathlib.Core.Bool.{Bool, true, false, cond, ◌&&◌, ◌||◌, or_assoc, or-false}
use mathlib.Core.Logic.{⊎_elim}
use mathlib.Core.Path.{◌≡◌, refl, sym, ap, ◌∙◌}
use lib.ListN.{length, get_or, set, take, drop, drop_of_length-le, length-drop, length-set}
use lib.Seq.{drop-cons, length-take-le, take-suc-set}
use lib.Dec.{eqb}
use borrow.Author.Tests.{eq-eqb, le-ltb, lt-ltb, ne_eqb}
use Rattle.wire.proofs.Writers.{lt-or-le}
use Rattle.pack_rules.specs.Names.{Name, eq_name, member}
use Rattle.pack_rules.specs.Write.{enc}
use Rattle.pack.specs.Intern.{table, table_f}
use Rattle.machines.specs.Fingerprints.{Halves, among, halves_of, high_of, low_of, may_equal}
use Rattle.machines.specs.declared.duplicates.Fingerprint.{Fingerprint}
use Rattle.pack.proofs.Tables.{eq_name-true}
use Rattle.pack.proofs.TableIndex.{enc-more, table-enc}
use Rattle.machines.proofs.CheckedReadLaws.{or-none}

-- the search among marks, with whether it was met so far: one more, none left
module _ (ms : List ℕ) (m i : ℕ) (hit z : Bool) where
  pub among-more : i < length ms → hit || among m (drop i ms) ≡ z → (hit || eqb (get_or ms i 0) m) || among m (drop (i + 1) ms) ≡ z
  unfolding among
  among-more l e =
      or_assoc hit (eqb (get_or ms i 0) m) (among m (drop (i + 1) ms))
      ∙ ap (λ (j : ℕ). hit || (eqb (get_or ms i 0) m || among m (drop j ms))) (add-one i)
      ∙ sym (ap (λ (x : List ℕ). hit || among m x) (drop-cons ms i 0 l))
      ∙ e

  pub among-done : length ms ≤ i → hit || among m (drop i ms) ≡ z → hit ≡ z
  unfolding among
  among-done l e = sym (or-false hit) ∙ sym (ap (λ (x : List ℕ). hit || among m x) (drop_of_length-le ms l)) ∙ e

-- the search that stops where it is met: here, not here, not at all
module _ (ms : List ℕ) (m i : ℕ) (z : Bool) where
  pub among-here : i < length ms → get_or ms i 0 ≡ m → among m (drop i ms) ≡ z → true ≡ z
  unfolding among
  among-here l g e = sym (ap (λ b. b || among m (drop (suc i) ms)) (eq-eqb _ _ g)) ∙ ap (among m) (sym (drop-cons ms i 0 l)) ∙ e

  pub among-past : i < length ms → (get_or ms i 0 ≡ m → ⊥) → among m (drop i ms) ≡ z → among m (drop (i + 1) ms) ≡ z
  unfolding among
  among-past l g e = ap (λ j. among m (drop j ms)) (add-one i) ∙ sym (ap (λ b. b || among m (drop (suc i) ms)) (ne_eqb _ _ g)) ∙ ap (among m) (sym (drop-cons ms i 0 l)) ∙ e

  pub among-end : length ms ≤ i → among m (drop i ms) ≡ z → false ≡ z
  unfolding among
  among-end l e = ap (among m) (sym (drop_of_length-le ms l)) ∙ e

pub maybe-over : (ms : List ℕ) (k m : ℕ) → length ms < k → true ≡ may_equal ms k m
unfolding may_equal
maybe-over ms k m l = sym (ap (λ b. cond b true (among m (take k ms))) (lt-ltb (length ms) k l))

pub maybe-within : (ms : List ℕ) (k m : ℕ) (r : Bool) → k ≤ length ms → r ≡ among m (take k ms) → r ≡ may_equal ms k m
unfolding may_equal
maybe-within ms k m r l e = e ∙ sym (ap (λ b. cond b true (among m (take k ms))) (le-ltb (length ms) k l))

-- a name whose mark is not among the marks is not among the names
other_name : (f : Name → ℕ) (n m : Name) → eqb (f m) (f n) ≡ false → eq_name n m ≡ false
other_name f n m e = go (eq_name n m) refl
  where
    go : (b : Bool) → eq_name n m ≡ b → b ≡ false
    go true h = sym (eq-eqb (f m) (f n) (ap f (sym (eq_name-true n m h)))) ∙ e
    go false h = refl

unmarked : (f : Name → ℕ) (n : Name) (ns : List Name) → among (f n) (halves_of f ns) ≡ false → member n ns ≡ false
unfolding among halves_of member
unmarked f n [] e = refl
unmarked f n (m ∷ ms) e =
    let o = or-none (eqb (f m) (f n)) (among (f n) (halves_of f ms)) e in
    ap (λ b. b || member n ms) (other_name f n m o.0) ∙ unmarked f n ms o.1

unmarked-out : (f : Name → ℕ) (t n ms : List ℕ) (k m : ℕ) (r : Bool) → m ≡ f n → Halves f ms k t → r ≡ may_equal ms k m → r ≡ false → false ≡ member n (table t)
unfolding may_equal Halves
unmarked-out f t n ms k m r e h p g = ⊎_elim (λ (l : length ms < k). over l) (λ (l : k ≤ length ms). within l) (lt-or-le (length ms) k)
  where
    over : length ms < k → false ≡ member n (table t)
    over l = sym (or-none true (member n (table t)) (ap (λ b. cond b true (among m (take k ms))) (sym (lt-ltb (length ms) k l)) ∙ sym p ∙ g)).1

    within : k ≤ length ms → false ≡ member n (table t)
    within l = sym (unmarked f n (table t) (sym (λ j. among (e j) (h l j)) ∙ ap (λ b. cond b true (among m (take k ms))) (sym (le-ltb (length ms) k l)) ∙ sym p ∙ g))

-- the same by either half
pub unmarked-either : (t n ls hs : List ℕ) (k : ℕ) (m : Fingerprint) (r : Bool) → (m.low ≡ low_of n) × (m.high ≡ high_of n) × Halves low_of ls k t × Halves high_of hs k t
    → r ≡ (may_equal ls k m.low && may_equal hs k m.high) → r ≡ false → false ≡ member n (table t)
unmarked-either t n ls hs k m r (a, b, u, v) p g = go (may_equal ls k m.low) (may_equal hs k m.high) refl refl
  where
    go : (x y : Bool) → may_equal ls k m.low ≡ x → may_equal hs k m.high ≡ y → false ≡ member n (table t)
    go false y d e = unmarked-out low_of t n ls k m.low false a u (sym d) refl
    go true false d e = unmarked-out high_of t n hs k m.high false b v (sym e) refl
    go true true d e = absurd (let z : ◌≡◌ {A = ℕ} 1 0 = ap (λ c. cond c 1 0) (sym (p ∙ (λ j. d j && e j)) ∙ g) in omega arith)

-- both halves may be there, or the first is not
pub both-may : (x y r a : Bool) → a ≡ x → a ≡ true → r ≡ y → r ≡ (x && y)
both-may x y r a e t g = g ∙ ap (λ b. b && y) (sym t ∙ e)

pub first-not : (x y a : Bool) → a ≡ x → a ≡ false → false ≡ (x && y)
first-not x y a e t = ap (λ b. b && y) (sym t ∙ e)

-- what the search for a name that stands again knows: the bytes before are whole names, and their halves are kept
abbrev pub Kept : (Name → ℕ) → List ℕ → ℕ → ℕ → List ℕ → Type 0
Kept f t at k ms = at < length t → (take at t ≡ enc (table (take at t))) × Halves f ms k (take at t)

pub kept-start : (f : Name → ℕ) (t ms : List ℕ) → Kept f t 0 0 ms
unfolding Halves halves_of table table_f enc
kept-start f t ms l = (refl, λ h. refl)

-- a name more: its bytes, with the length byte before them
cut : (n a : ℕ) (t : List ℕ) → a < length t → n ≤ length t - (a + 1) → take (a + 1 + n) t ≡ take a t ++ (get_or t a 0 ∷ take n (drop (a + 1) t))
cut n zero [] l h = absurd (let g : 1 ≤ 0 = l in omega arith)
cut n zero (x ∷ xs) l h = ap (λ j. take j (x ∷ xs)) (let e : 0 + 1 + n ≡ suc n = omega arith in e)
cut n (suc a) [] l h = absurd (let g : suc (suc a) ≤ 0 = l in omega arith)
cut n (suc a) (x ∷ xs) l h = ap (λ j. take j (x ∷ xs)) (let e : suc a + 1 + n ≡ suc (a + 1 + n) = omega arith in e)
    ∙ ap (λ (r : List ℕ). x ∷ r) (cut n a xs (omega arith) (omega arith))
    ∙ ap (λ j. x ∷ (take a xs ++ (get_or xs a 0 ∷ take n (drop j (x ∷ xs))))) (let e : suc (a + 1) ≡ suc a + 1 = omega arith in e)

halves-snoc : (f : Name → ℕ) (ns : List Name) (n : Name) → halves_of f (ns ++ (n ∷ [])) ≡ halves_of f ns ++ (f n ∷ [])
unfolding halves_of
halves-snoc f [] n = refl
halves-snoc f (m ∷ ms) n = ap (λ (l : List ℕ). f m ∷ l) (halves-snoc f ms n)

module _ (f : Name → ℕ) (t ms ns : List ℕ) (at e k m : ℕ) (h : at < length t) (p : e ≡ min (at + 1 + get_or t at 0) (length t)) (q : m ≡ f (take (e - (at + 1)) (drop (at + 1) t))) (w : ns ≡ set ms k m) where
  word : Name
  word = take (e - (at + 1)) (drop (at + 1) t)

  -- the names up to e, where the last of them is whole
  more : e < length t → take at t ≡ enc (table (take at t)) → take e t ≡ enc (table (take at t) ++ (word ∷ []))
  unfolding word
  more l g =
      let n : at + 1 + (e - (at + 1)) ≡ e = omega arith in
      let b : get_or t at 0 ≡ length word = omega (arith, length-take-le (e - (at + 1)) (drop (at + 1) t) (omega (arith, length-drop (at + 1) t))) in
      ap (λ j. take j t) (sym n)
      ∙ cut (e - (at + 1)) at t h (omega arith)
      ∙ (λ j. g j ++ (b j ∷ word))
      ∙ sym (enc-more (table (take at t)) word)

  names : e < length t → take at t ≡ enc (table (take at t)) → table (take e t) ≡ table (take at t) ++ (word ∷ [])
  names l g = ap table (more l g) ∙ table-enc (table (take at t) ++ (word ∷ []))

  pub kept_more : Kept f t at k ms → Kept f t e (k + 1) ns
  unfolding Halves word
  kept_more d l =
      let g = (d h).0 in
      let n = names l g in (
        more l g ∙ ap enc (sym n),
        λ r.
            let s : k < length ms = omega (arith, ap length w, length-set ms k m) in
            ap (λ (x : List ℕ). take (k + 1) x) w
            ∙ ap (λ j. take j (set ms k m)) (add-one k)
            ∙ take-suc-set ms k m s
            ∙ (λ j. (d h).1 (omega arith) j ++ (q j ∷ []))
            ∙ sym (halves-snoc f (table (take at t)) word)
            ∙ ap (halves_of f) (sym n),
      )
