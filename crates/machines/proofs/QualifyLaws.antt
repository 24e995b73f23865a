-- Laws for the code that spells names, step by step.
use Prim.Native.Nat.{ℕ, zero, suc, ◌+◌, ◌-◌, ◌%◌, ◌<◌, ◌≤◌}
use native.Mathlib.Omega.{arith}
use mathlib.Core.List.{List, [], ◌∷◌, ◌++◌}
use mathlib.Core.Bool.{Bool, true, false, ◌&&◌}
use mathlib.Core.Path.{◌≡◌, refl, sym, ap, ◌∙◌}
use lib.ListN.{length, get_or, set, take, drop, length-append}
use lib.Seq.{sets, sets-eq, paste, drop-cons, get_or-set_other}
use lib.Dec.{leb, ltb}
use borrow.Author.Tests.{le-leb, lt-leb, le-ltb, lt-ltb, leb-true, ltb-false, ltb-true}
use Rattle.machines.specs.Tables.{len_of}
use Rattle.machines.proofs.TableLaws.{past_end}
use Rattle.machines.proofs.CheckedReadLaws.{chosen, left_out}
use Rattle.machines.specs.LayoutAt.{fits_at, prefix_len, qualified_at, qualified_len, qualifying, under, values}

-- a run of stores: it leaves what is before it, and one more store at its end
pub sets-before : (l : List ℕ) (i : ℕ) (vs : List ℕ) (j : ℕ) → j < i → get_or (sets l i vs) j 0 ≡ get_or l j 0
sets-before l i [] j h = refl
sets-before l i (v ∷ vs) j h = sets-before (set l i v) (suc i) vs j (omega arith) ∙ get_or-set_other l i j v 0 (λ e. omega arith)

pub sets-append : (l : List ℕ) (i : ℕ) (vs ws : List ℕ) (j : ℕ) → j ≡ i + length vs → sets (sets l i vs) j ws ≡ sets l i (vs ++ ws)
sets-append l i [] ws j h = let e : j ≡ i = omega arith in ap (λ (k : ℕ). sets l k ws) e
sets-append l i (v ∷ vs) ws j h = sets-append (set l i v) (suc i) vs ws j (omega arith)

-- values
pub length-values : (l : List ℕ) (a n : ℕ) → length (values l a n) ≡ n
unfolding values
length-values l a zero = refl
length-values l a (suc n) = ap suc (length-values l (suc a) n)

pub values-snoc : (l : List ℕ) (a n : ℕ) → values l a (suc n) ≡ values l a n ++ (get_or l (a + n) 0 ∷ [])
unfolding values
values-snoc l a zero = let e : a ≡ a + 0 = omega arith in ap (λ (k : ℕ). get_or l k 0 ∷ []) e
values-snoc l a (suc n) =
    let e : suc a + n ≡ a + suc n = omega arith in
    ap (λ (r : List ℕ). get_or l a 0 ∷ r) (values-snoc l (suc a) n ∙ ap (λ (k : ℕ). values l (suc a) n ++ (get_or l k 0 ∷ [])) e)

pub values_same : (l u : List ℕ) (at : ℕ) → ((j : ℕ) → j < at → get_or u j 0 ≡ get_or l j 0) → (a n : ℕ) → a + n ≤ at → values u a n ≡ values l a n
unfolding values
values_same l u at e a zero h = refl
values_same l u at e a (suc n) h = λ i. e a (omega arith) i ∷ values_same l u at e (suc a) n (omega arith) i

-- a copy, one letter further
pub copied_more : (l qualified u src : List ℕ) (at a k p b : ℕ) → qualified ≡ sets l at (values src a k) → p ≡ a + k → b ≡ get_or src p 0 → u ≡ set qualified (at + k) b → u ≡ sets l at (values src a (k + 1))
copied_more l qualified u src at a k p b e q f g =
    let i : k + 1 ≡ suc k = omega arith in
    g
    ∙ ap (λ (r : List ℕ). set r (at + k) b) e
    ∙ ap (λ (v : ℕ). set (sets l at (values src a k)) (at + k) v) (f ∙ ap (λ (j : ℕ). get_or src j 0) q)
    ∙ sets-append l at (values src a k) (get_or src (a + k) 0 ∷ []) (at + k) (ap (λ (j : ℕ). at + j) (sym (length-values src a k)))
    ∙ ap (sets l at) (sym (values-snoc src a k) ∙ ap (values src a) (sym i))

pub kept-letter : (l qualified : List ℕ) (at : ℕ) (vs : List ℕ) (j b : ℕ) → qualified ≡ sets l at vs → j < at → b ≡ get_or qualified j 0 → b ≡ get_or l j 0
kept-letter l qualified at vs j b e h f = f ∙ ap (λ (r : List ℕ). get_or r j 0) e ∙ sets-before l at vs j h

-- values that all stand there, and copied at once
pub values-are : (l : List ℕ) (a n : ℕ) → a + n ≤ length l → values l a n ≡ take n (drop a l)
unfolding values
values-are l a zero h = refl
values-are l a (suc n) h =
    ap (λ (r : List ℕ). get_or l a 0 ∷ r) (values-are l (suc a) n (omega arith)) ∙ ap (take (suc n)) (sym (drop-cons l a 0 (omega arith)))

pub pasted : (l : List ℕ) (at a m : ℕ) → a + m ≤ length l → at + m ≤ length l → paste l at (drop a l) (a + m - a) ≡ sets l at (values l a m)
pasted l at a m h k =
    let n : a + m - a ≡ m = omega arith in
    ap (paste l at (drop a l)) n
    ∙ sym (sets-eq (values l a m) l at (omega (arith, length-values l a m)) ∙ (λ i. take at l ++ values-are l a m h i ++ drop (at + length-values l a m i) l))

pub all-copied : (l u : List ℕ) (at a m k : ℕ) → k ≤ m → m ≤ k → a + m ≤ at → at + prefix_len m ≤ length l → m ≤ prefix_len m → u ≡ sets l at (values l a k) → u ≡ paste l at (drop a l) (a + m - a)
all-copied l u at a m k x y h r p e = let i : k ≡ m = omega arith in e ∙ ap (λ (j : ℕ). sets l at (values l a j)) i ∙ sym (pasted l at a m (omega arith) (omega arith))

-- the prefix
pub lead-none : (m : ℕ) → m ≡ 0 → 0 ≡ prefix_len m
unfolding prefix_len
lead-none m e = rw e

pub lead-some : (m : ℕ) → (m ≡ 0 → ⊥) → m + 1 ≡ prefix_len m
unfolding prefix_len
lead-some zero e = absurd (e refl)
lead-some (suc m) e = refl

pub under_none : (l : List ℕ) (a m at : ℕ) → m ≡ 0 → l ≡ sets l at (under l a m)
unfolding under
under_none l a m at e = rw e

pub under_some : (l u v : List ℕ) (a m at : ℕ) → (m ≡ 0 → ⊥) → a + m ≤ at → at + prefix_len m ≤ length l → u ≡ paste l at (drop a l) (a + m - a) → v ≡ set u (at + m) 95 → v ≡ sets l at (under l a m)
unfolding under prefix_len
under_some l u v a zero at h r s e f = absurd (h refl)
under_some l u v a (suc m) at h r s e f =
    f
    ∙ ap (λ (w : List ℕ). set w (at + suc m) 95) (e ∙ pasted l at a (suc m) (omega arith) (omega arith))
    ∙ sets-append l at (values l a (suc m)) (95 ∷ []) (at + suc m) (ap (λ (j : ℕ). at + j) (sym (length-values l a (suc m))))

length-under : (l : List ℕ) (a m : ℕ) → length (under l a m) ≡ prefix_len m
unfolding under prefix_len
length-under l a zero = refl
length-under l a (suc m) = length-append (values l a (suc m)) (95 ∷ []) ∙ ap (λ (j : ℕ). j + 1) (length-values l a (suc m))

under_same : (l u : List ℕ) (at : ℕ) → ((j : ℕ) → j < at → get_or u j 0 ≡ get_or l j 0) → (a m : ℕ) → a + m ≤ at → under u a m ≡ under l a m
unfolding under
under_same l u at e a zero h = refl
under_same l u at e a (suc m) h = ap (λ (r : List ℕ). r ++ (95 ∷ [])) (values_same l u at e a (suc m) h)

-- whether a word fits in
pub fits_low : (len a m at n : ℕ) → at < a + m → false ≡ fits_at len a m at n
unfolding fits_at
fits_low len a m at n h = rw (lt-leb (a + m) at h)

pub fits-high : (len a m at n : ℕ) → len ≤ at + n → false ≡ fits_at len a m at n
unfolding fits_at
fits-high len a m at n h = rw (le-ltb (at + n) len h) (go (leb (a + m) at))
  where
    go : (b : Bool) → false ≡ (b && false)
    go true = refl
    go false = refl

pub fits_on : (len a m at n k : ℕ) → a + m ≤ at → at < len → n < len - at → k ≡ prefix_len m → ltb k (len - at - n) ≡ fits_at len a m at (prefix_len m + n)
unfolding fits_at
fits_on len a m at n k h x y e = rw (le-leb (a + m) at h, ← e) (go (ltb k (len - at - n)) refl)
  where
    go : (b : Bool) → ltb k (len - at - n) ≡ b → b ≡ ltb (at + (k + n)) len
    go true f = let z : at + (k + n) < len = omega (arith, ltb-true) in sym (lt-ltb (at + (k + n)) len z)
    go false f = let z : len ≤ at + (k + n) = omega (arith, ltb-false) in sym (le-ltb (at + (k + n)) len z)

pub fits-within : (len a m at n : ℕ) (r : Bool) → r ≡ fits_at len a m at n → r ≡ true → (a + m ≤ at) × (at + n < len)
unfolding fits_at
fits-within len a m at n r e f = go (leb (a + m) at) (ltb (at + n) len) refl refl (sym e ∙ f)
  where
    go : (b c : Bool) → leb (a + m) at ≡ b → ltb (at + n) len ≡ c → (b && c) ≡ true → (a + m ≤ at) × (at + n < len)
    go true true x y z = (leb-true (a + m) at x, ltb-true (at + n) len y)
    go true false x y z = let w : ◌≡◌ {A = ℕ} 0 1 = cc in absurd (omega arith)
    go false c x y z = let w : ◌≡◌ {A = ℕ} 0 1 = cc in absurd (omega arith)

-- the whole name
pub length-spelling : (s offsets : List ℕ) (i : ℕ) (l : List ℕ) (a m : ℕ) → length (qualifying s offsets i l a m) ≡ prefix_len m + len_of s offsets i
unfolding qualifying
length-spelling s offsets i l a m =
    length-append (under l a m) (values s (suc (get_or offsets i 0)) (len_of s offsets i))
    ∙ ap (λ (j : ℕ). j + length (values s (suc (get_or offsets i 0)) (len_of s offsets i))) (length-under l a m)
    ∙ ap (λ (j : ℕ). prefix_len m + j) (length-values s (suc (get_or offsets i 0)) (len_of s offsets i))

module _ (s offsets qualified : List ℕ) (i a m at n : ℕ) (r : Bool) (hints : r ≡ fits_at (length qualified) a m at (prefix_len m + n)) (len : n ≡ len_of s offsets i) where
  same-fits : fits_at (length qualified) a m at (length (qualifying s offsets i qualified a m)) ≡ r
  same-fits =
      ap (fits_at (length qualified) a m at) (length-spelling s offsets i qualified a m ∙ ap (λ (j : ℕ). prefix_len m + j) (sym len)) ∙ sym hints

  spelling-is : under qualified a m ++ values s (suc (get_or offsets i 0)) (len_of s offsets i) ≡ qualifying s offsets i qualified a m
  unfolding qualifying
  spelling-is = refl

  pub spelt-not : r ≡ false → (0 ≡ qualified_len s offsets i qualified a m at) × (qualified ≡ qualified_at s offsets i qualified a m at)
  unfolding qualified_len qualified_at
  spelt-not e = (sym (left_out _ _ _ (same-fits ∙ e)), sym (left_out _ _ _ (same-fits ∙ e)))

  pub spelt_is : (f w : ℕ) (u v z : List ℕ) → r ≡ true → f ≡ prefix_len m → w ≡ f + n → u ≡ set qualified at (w % 256) → v ≡ sets u (at + 1) (under u a m)
      → z ≡ sets v (at + 1 + f) (values s (suc (get_or offsets i 0)) (len_of s offsets i)) → (w ≡ qualified_len s offsets i qualified a m at) × (z ≡ qualified_at s offsets i qualified a m at)
  unfolding qualified_len qualified_at
  spelt_is f w u v z e g h x y k = (size ∙ sym (chosen _ _ _ (same-fits ∙ e)), all ∙ sym (chosen _ _ _ (same-fits ∙ e)))
    where
      size : w ≡ length (qualifying s offsets i qualified a m)
      size = h ∙ ap (λ (j : ℕ). j + n) g ∙ ap (λ (j : ℕ). prefix_len m + j) len ∙ sym (length-spelling s offsets i qualified a m)

      kept : (j : ℕ) → j < at → get_or u j 0 ≡ get_or qualified j 0
      kept j l = ap (λ (q : List ℕ). get_or q j 0) x ∙ get_or-set_other qualified at j (w % 256) 0 (λ d. omega arith)

      prefix : under u a m ≡ under qualified a m
      prefix = under_same qualified u at kept a m (fits-within (length qualified) a m at (prefix_len m + n) r hints e).0

      letters : z ≡ sets u (at + 1) (qualifying s offsets i qualified a m)
      letters =
          k
          ∙ ap (λ (q : List ℕ). sets q (at + 1 + f) (values s (suc (get_or offsets i 0)) (len_of s offsets i))) (y ∙ ap (sets u (at + 1)) prefix)
          ∙ sets-append u (at + 1) (under qualified a m) (values s (suc (get_or offsets i 0)) (len_of s offsets i)) (at + 1 + f) (ap (λ (j : ℕ). at + 1 + j) (g ∙ sym (length-under qualified a m)))
          ∙ ap (sets u (at + 1)) spelling-is

      all : z ≡ sets qualified at (length (qualifying s offsets i qualified a m) % 256 ∷ qualifying s offsets i qualified a m)
      all =
          let one : at + 1 ≡ suc at = omega arith in
          letters
          ∙ ap (λ (j : ℕ). sets u j (qualifying s offsets i qualified a m)) one
          ∙ ap (λ (q : List ℕ). sets q (suc at) (qualifying s offsets i qualified a m)) (x ∙ ap (λ (j : ℕ). set qualified at (j % 256)) size)

-- a copy's start, and a name's end
pub copied_none : (l src : List ℕ) (at a : ℕ) → l ≡ sets l at (values src a 0)
unfolding values
copied_none l src at a = refl

pub name-none : (l s offsets : List ℕ) (i at p : ℕ) → p ≡ get_or offsets i 0 → length s ≤ p → l ≡ sets l at (values s (suc (get_or offsets i 0)) (len_of s offsets i))
unfolding len_of
name-none l s offsets i at p e h = rw (← e, ← past_end s p h) (copied_none l s at (suc p))

pub name-some : (l qualified s offsets : List ℕ) (i at p n k : ℕ) → p ≡ get_or offsets i 0 → n ≡ get_or s p 0 → k ≤ n → n ≤ k → qualified ≡ sets l at (values s (suc p) k) → qualified ≡ sets l at (values s (suc (get_or offsets i 0)) (len_of s offsets i))
unfolding len_of
name-some l qualified s offsets i at p n k e f x y g = let z : k ≡ n = omega arith in g ∙ ap (λ (j : ℕ). sets l at (values s (suc p) j)) (z ∙ f) ∙ ap (λ (j : ℕ). sets l at (values s (suc j) (get_or s j 0))) e
