-- Names among letters: where they are said, and that they stay.
use Prim.Native.Nat.{ℕ, zero, suc, ◌+◌, ◌%◌, ◌<◌, ◌≤◌}
use native.Mathlib.Nat.{mod-eq_of_lt}
use native.Mathlib.Omega.{arith}
use mathlib.Core.List.{List, [], ◌∷◌, ◌++◌, append_assoc}
use mathlib.Core.Bool.{Bool, true, cond, ◌&&◌}
use mathlib.Core.Path.{◌≡◌, refl, sym, ap, ◌∙◌}
use lib.ListN.{length, get_or, take, drop, length-append}
use lib.Seq.{drop-append-add, length-take-le, sets, sets-eq, take_at, take-length, take-nil, take-take}
use lib.Dec.{leb, ltb}
use borrow.Author.Tests.{le-leb, lt-ltb}
use Rattle.pack_rules.specs.Names.{Name}
use Rattle.pack.specs.RawNames.{raw_name}
use Rattle.machines.specs.Layout.{prefix_of, slice_of}
use Rattle.machines.proofs.QualifyLaws.{values-are}
use Rattle.machines.specs.LayoutAt.{fits_at, qualifying, qualified_len, qualified_at, sum, under, values}
use Rattle.machines.specs.Tables.{len_of}
use Rattle.machines.proofs.NamesPlaced.{SpotAt}

-- no sum is stopped
pub sum_is : (a b : ℕ) → a + b ≤ 4294967296 → sum a b ≡ a + b
unfolding sum
sum_is a b h = omega arith

-- beginnings of lists
pub take_less : (m n : ℕ) (l k : List ℕ) → m ≤ n → take n l ≡ take n k → take m l ≡ take m k
take_less m n l k h e = sym (take-take m n l h) ∙ ap (take m) e ∙ take-take m n k h

slice-take : (l : List ℕ) (a m n : ℕ) → a + m ≤ n → take m (drop a (take n l)) ≡ take m (drop a l)
slice-take l zero m n h = take-take m n l (omega arith)
slice-take [] (suc a) m n h = ap (λ (y : List ℕ). take m (drop (suc a) y)) (take-nil n)
slice-take (x ∷ l) (suc a) m zero h = absurd (omega arith)
slice-take (x ∷ l) (suc a) m (suc n) h = slice-take l a m n (omega arith)

-- a slice of what two lists share
pub slice-shared : (l k : List ℕ) (a m n : ℕ) → a + m ≤ n → take n l ≡ take n k → slice_of l a m ≡ slice_of k a m
unfolding slice_of
slice-shared l k a m n h e = sym (slice-take l a m n h) ∙ ap (λ (y : List ℕ). take m (drop a y)) e ∙ slice-take k a m n h

-- the prefix, and a name of the pack after it
under-is : (qualified : List ℕ) (a m : ℕ) → a + m ≤ length qualified → under qualified a m ≡ prefix_of (slice_of qualified a m)
unfolding under prefix_of slice_of values
under-is qualified a zero h = refl
under-is qualified a (suc m) h = ap prefix_of (values-are qualified a (suc m) h)

name-values : (s offsets : List ℕ) (i : ℕ) (n : Name) → SpotAt s (get_or offsets i 0) n → values s (suc (get_or offsets i 0)) (len_of s offsets i) ≡ n
unfolding len_of raw_name
name-values s offsets i n h =
    let l = h.inside in
    let e : suc (get_or offsets i 0) ≡ get_or offsets i 0 + 1 = omega arith in
    values-are s (suc (get_or offsets i 0)) (get_or s (get_or offsets i 0) 0) (omega arith)
    ∙ ap (λ (y : ℕ). take (get_or s (get_or offsets i 0) 0) (drop y s)) e ∙ h.is

pub spelling-is : (s offsets : List ℕ) (i : ℕ) (qualified : List ℕ) (a m : ℕ) (p n : Name) → a + m ≤ length qualified → prefix_of (slice_of qualified a m) ≡ p → SpotAt s (get_or offsets i 0) n → qualifying s offsets i qualified a m ≡ p ++ n
unfolding qualifying
spelling-is s offsets i qualified a m p n h e f =
    ap (λ (y : List ℕ). y ++ values s (suc (get_or offsets i 0)) (len_of s offsets i)) (under-is qualified a m h ∙ e) ∙ ap (λ (y : List ℕ). p ++ y) (name-values s offsets i n f)

-- a word that fits in is said
module _ (s offsets : List ℕ) (i : ℕ) (qualified : List ℕ) (a m at : ℕ) (full : Name) (is : qualifying s offsets i qualified a m ≡ full)
    (after : a + m ≤ at) (room : at + 1 + length full ≤ length qualified) where
  fits_in : fits_at (length qualified) a m at (length (qualifying s offsets i qualified a m)) ≡ true
  unfolding fits_at
  fits_in =
      ap (λ (y : List ℕ). leb (a + m) at && ltb (at + length y) (length qualified)) is
      ∙ ap (λ (y : Bool). y && ltb (at + length full) (length qualified)) (le-leb (a + m) at after)
      ∙ lt-ltb (at + length full) (length qualified) (omega arith)

  pub spelt_is : length full < 256 → qualified_at s offsets i qualified a m at ≡ sets qualified at (length full ∷ full)
  unfolding qualified_at
  spelt_is h =
      ap (λ (y : Bool). cond y (sets qualified at (length (qualifying s offsets i qualified a m) % 256 ∷ qualifying s offsets i qualified a m)) qualified) fits_in
      ∙ ap (λ (y : List ℕ). sets qualified at (length y % 256 ∷ y)) is
      ∙ ap (λ (y : ℕ). sets qualified at (y ∷ full)) (mod-eq_of_lt h)

  pub spelt-length : qualified_len s offsets i qualified a m at ≡ length full
  unfolding qualified_len
  spelt-length = ap (λ (y : Bool). cond y (length (qualifying s offsets i qualified a m)) 0) fits_in ∙ ap (λ (y : List ℕ). length y) is

-- what is said after what was said
pub said : (qualified : List ℕ) (at : ℕ) (vs : List ℕ) → at + length vs ≤ length qualified → take (at + length vs) (sets qualified at vs) ≡ take at qualified ++ vs
said qualified at vs h =
    let i : length (take at qualified) ≡ at = length-take-le at qualified (omega arith) in
    let j : length (take at qualified ++ vs) ≡ at + length vs = length-append (take at qualified) vs ∙ ap (λ (y : ℕ). y + length vs) i in
    ap (take (at + length vs)) (sets-eq vs qualified at h)
    ∙ take_at (take at qualified ++ vs) (drop (at + length vs) qualified) (at + length vs) j

pub said-before : (qualified : List ℕ) (at : ℕ) (vs : List ℕ) → at + length vs ≤ length qualified → take at (sets qualified at vs) ≡ take at qualified
said-before qualified at vs h =
    ap (take at) (sets-eq vs qualified at h ∙ append_assoc (take at qualified) vs (drop (at + length vs) qualified)) ∙ take_at (take at qualified) (vs ++ drop (at + length vs) qualified) at (length-take-le at qualified (omega arith))

-- a name that was said, found again
pub said-slice : (qualified k : List ℕ) (at : ℕ) (full : Name) → at ≤ length qualified → take (at + suc (length full)) k ≡ take at qualified ++ (length full ∷ full) → slice_of k (at + 1) (length full) ≡ full
unfolding slice_of
said-slice qualified k at full h e =
    let i : length (take at qualified) ≡ at = length-take-le at qualified h in
    sym (slice-take k (at + 1) (length full) (at + suc (length full)) (omega arith))
    ∙ ap (λ (y : List ℕ). take (length full) (drop (at + 1) y)) e
    ∙ ap (λ (y : ℕ). take (length full) (drop (y + 1) (take at qualified ++ (length full ∷ full)))) (sym i)
    ∙ ap (take (length full)) (drop-append-add (take at qualified) (length full ∷ full) 1)
    ∙ take-length full

-- a name that is not empty, as a prefix
pub prefix-some : (n : Name) → 0 < length n → prefix_of n ≡ n ++ (95 ∷ [])
unfolding prefix_of
prefix-some [] h = absurd (omega arith)
prefix-some (c ∷ n) h = refl
