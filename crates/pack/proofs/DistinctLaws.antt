-- Names told apart as they are read: a name that gets a cell is none of those before it.
use Rattle.std.proofs.Common.{◌≡◌, ℕ, zero, suc, ◌+◌, ◌-◌, ◌*◌, ◌/◌, ◌%◌, ◌<◌, ◌≤◌, Bool, true, false, cond, not, ◌&&◌, ◌||◌, eqb, ltb, List, [], ◌∷◌, ◌++◌, length, get_or, take, set, sym, refl, ap, ◌∙◌, subst, mul-le-mul_right, add-one, arith, length-set, get_or-set_other, get_or-set_same, ltb-true, le-ltb, lt-ltb, eq-eqb, ne_eqb, eqb-true}
use mathlib.Core.Bool.{and-eq-true_iff}
use Rattle.pack_rules.specs.Names.{Name, eq_name, member}
use Rattle.pack.specs.RawNames.{Follows, one_of, raw_name, raw_names}
use Rattle.pack.specs.Siphash.{hash, quad_at}
use Rattle.pack.specs.Distinct.{cells, letters, product, key_for, folded, long_way, way, tag, first, after, is_of, free_from, free_on, free_cell, telling, gets, tagged, entered, Tells}
use Rattle.pack.proofs.Tables.{eq_name-refl, eq_name-true, member-either}
use Rattle.pack.proofs.NameLaws.{raw_names-more}

-- THE WAY OF A NAME

pub letters-are : (n : Name) (p q x y : ℕ) → p ≡ length n - 8 → x ≡ quad_at n p → q ≡ length n - 4 → y ≡ quad_at n q → x + 4294967296 * y ≡ letters n
unfolding letters
letters-are n p q x y e f g h = λ i. (f ∙ ap (quad_at n) e) i + 4294967296 * (h ∙ ap (quad_at n) g) i

pub letters-few : (n : Name) (x : ℕ) → length n < 5 → x ≡ quad_at n 0 → 4294967297 * x ≡ letters n
unfolding letters
letters-few n x l e =
    let a : length n - 8 ≡ 0 = omega arith in
    let b : length n - 4 ≡ 0 = omega arith in
    let z : 4294967297 * x ≡ x + 4294967296 * x = omega arith in
    z ∙ letters-are n 0 0 x x (sym a) e (sym b) e

pub key-long : (key c h : ℕ) (n : Name) → 8 < length n → c ≡ letters (take 8 n) → h ≡ product key c → h ≡ key_for key n
unfolding key_for
key-long key c h n l e f = rw (lt-ltb 8 (length n) l) (f ∙ ap (product key) e)

pub key-short : (key : ℕ) (n : Name) → length n ≤ 8 → key ≡ key_for key n
unfolding key_for
key-short key n l = rw (le-ltb 8 (length n) l)

pub long-hash : (key r : ℕ) (n : Name) → key ≡ 0 → r ≡ hash n → r ≡ long_way key n
unfolding long_way
long-hash key r n l e = rw (eq-eqb key 0 l) e

pub long-keyed : (key h x r : ℕ) (n : Name) → (key ≡ 0 → ⊥) → h ≡ hash n → x ≡ product key h → r ≡ folded x → r ≡ long_way key n
unfolding long_way
long-keyed key h x r n l d e f = rw (ne_eqb key 0 l) (f ∙ ap folded (e ∙ ap (product key) d))

pub way_long : (key r : ℕ) (n : Name) → eqb key 0 || ltb 16 (length n) ≡ true → r ≡ long_way key n → r ≡ way key n
unfolding way
way_long key r n l e = rw l e

pub way-short : (key k c x r : ℕ) (n : Name) → eqb key 0 || ltb 16 (length n) ≡ false → k ≡ key_for key n → c ≡ letters n → x ≡ product k c → r ≡ folded x → r ≡ way key n
unfolding way
way-short key k c x r n l d e f g = rw l (g ∙ ap folded (f ∙ ap (λ y. product y c) d ∙ ap (product (key_for key n)) e))

-- a product of 32 bits by 32
pub product-fits : (x y : ℕ) → x < 4294967296 → y < 4294967296 → x * y < 18446744073709551616
product-fits x y a b = let z : x * y ≤ 4294967295 * y = mul-le-mul_right y (omega arith) in omega (arith, z)

-- A WAY, STEP BY STEP

pub first_plain : (key h : ℕ) → key ≡ 0 → 2 * (h % 16384) ≡ first key h
unfolding first
first_plain key h e = rw (eq-eqb key 0 e)

pub first-keyed : (key h : ℕ) → (key ≡ 0 → ⊥) → h % cells ≡ first key h
unfolding first
first-keyed key h d = rw (ne_eqb key 0 d)

pub after-plain : (key h i : ℕ) → key ≡ 0 → (i + 2 * (2 * (h % 16384) + 1)) % cells ≡ after key h i
unfolding after
after-plain key h i e = rw (eq-eqb key 0 e)

pub after-keyed : (key h i : ℕ) → (key ≡ 0 → ⊥) → (i + (2 * (h % 16384) + 1)) % cells ≡ after key h i
unfolding after
after-keyed key h i d = rw (ne_eqb key 0 d)

module _ (s t : List ℕ) (n : Name) (key g i p w : ℕ) (v : w ≡ get_or t (i + 1) 0) where
  pub not-of : eqb key 0 && not (eqb w g) ≡ true → false ≡ is_of s t n key g i p
  unfolding is_of
  not-of o = rw (ap (λ x. eqb key 0 && not (eqb x g)) (sym v) ∙ o)

  pub may-be-of : (r : Bool) → eqb key 0 && not (eqb w g) ≡ false → r ≡ eq_name (raw_name s p) n → r ≡ is_of s t n key g i p
  unfolding is_of
  may-be-of r o f = rw (ap (λ x. eqb key 0 && not (eqb x g)) (sym v) ∙ o) f

module _ (s t : List ℕ) (n : Name) (key g : ℕ) where
  abbrev on : ℕ → ℕ → ℕ → ℕ
  on f h i = free_from f s t n key g h i (get_or t i 0)

  pub free-spent : (f h i : ℕ) → f ≤ 0 → on f h i ≡ cells
  unfolding free_from
  free-spent zero h i l = refl
  free-spent (suc f) h i l = absurd (omega arith)

  pub free-here : (f h i v : ℕ) → 0 < f → v ≡ get_or t i 0 → v ≡ 0 → on f h i ≡ i
  unfolding free_from
  free-here zero h i v l e d = absurd (omega arith)
  free-here (suc f) h i v l e d = ap (free_from (suc f) s t n key g h i) (sym e ∙ d)

  held : (f h i v : ℕ) (b : Bool) → 0 < f → (v ≡ 0 → ⊥) → is_of s t n key g i (v - 1) ≡ b → free_from f s t n key g h i v ≡ cond b cells (on (f - 1) (h / 2) (after key h i))
  unfolding free_from
  held zero h i v b l d e = absurd (omega arith)
  held (suc f) h i zero b l d e = absurd (d refl)
  held (suc f) h i (suc p) b l d e =
      let z : suc p - 1 ≡ p = omega arith in
      let y : f ≡ suc f - 1 = omega arith in
      ap (λ (x : Bool). cond x cells (on f (h / 2) (after key h i))) (ap (is_of s t n key g i) (sym z) ∙ e)
      ∙ ap (λ k. cond b cells (on k (h / 2) (after key h i))) y

  pub free-met : (f h i v : ℕ) (b : Bool) → 0 < f → v ≡ get_or t i 0 → (v ≡ 0 → ⊥) → b ≡ is_of s t n key g i (v - 1) → b ≡ true → on f h i ≡ cells
  free-met f h i v b l e d r o = ap (free_from f s t n key g h i) (sym e) ∙ held f h i v true l d (sym r ∙ o)

  pub free_on_lem : (f h i v j : ℕ) (b : Bool) → 0 < f → v ≡ get_or t i 0 → (v ≡ 0 → ⊥) → b ≡ is_of s t n key g i (v - 1) → b ≡ false → j ≡ after key h i → on f h i ≡ on (f - 1) (h / 2) j
  free_on_lem f h i v j b l e d r o q = ap (free_from f s t n key g h i) (sym e) ∙ held f h i v false l d (sym r ∙ o) ∙ ap (on (f - 1) (h / 2)) (sym q)

pub free-on-way : (s t : List ℕ) (n : Name) (key g h i : ℕ) → g ≡ tag h → i ≡ first key h → free_from 256 s t n key g (h / cells) i (get_or t i 0) ≡ free_on s t key n h
unfolding free_on
free-on-way s t n key g h i d e = ap (λ x. free_from 256 s t n key x (h / cells) i (get_or t i 0)) d ∙ ap (λ x. free_from 256 s t n key (tag h) (h / cells) x (get_or t x 0)) e

pub telling-is : (t : List ℕ) (v : ℕ) → v ≡ get_or t 32768 0 → eqb (length t) 32769 && eqb v 0 ≡ telling t
unfolding telling
telling-is t v e = ap (λ k. eqb (length t) 32769 && eqb k 0) e

pub telling-long : (t : List ℕ) → telling t ≡ true → (length t ≡ 32769) × (get_or t 32768 0 ≡ 0)
unfolding telling
telling-long t e = let z = (and-eq-true_iff _ _).0 e in (eqb-true (length t) 32769 z.0, eqb-true (get_or t 32768 0) 0 z.1)

-- CELLS OF A WAY

-- where there is no key, cells of ways are even
unfoldable odd : ℕ → ℕ → ℕ
odd key i = cond (eqb key 0) (i % 2) 0

odd-first : (key h : ℕ) → odd key (first key h) ≡ 0
unfolding odd first
odd-first key h = go (eqb key 0)
  where
    go : (b : Bool) → cond b (cond b (2 * (h % 16384)) (h % cells) % 2) 0 ≡ 0
    go true = omega arith
    go false = refl

odd-after : (key h i : ℕ) → odd key i ≡ 0 → odd key (after key h i) ≡ 0
unfolding odd after
odd-after key h i e = go (eqb key 0) e
  where
    go : (b : Bool) → cond b (i % 2) 0 ≡ 0 → cond b (cond b ((i + 2 * (2 * (h % 16384) + 1)) % cells) ((i + (2 * (h % 16384) + 1)) % cells) % 2) 0 ≡ 0
    go true e = omega arith
    go false e = refl

first-less : (key h : ℕ) → first key h < cells
unfolding first
first-less key h = go (eqb key 0)
  where
    go : (b : Bool) → cond b (2 * (h % 16384)) (h % cells) < cells
    go true = omega arith
    go false = omega arith

after_less : (key h i : ℕ) → after key h i < cells
unfolding after
after_less key h i = go (eqb key 0)
  where
    go : (b : Bool) → cond b ((i + 2 * (2 * (h % 16384) + 1)) % cells) ((i + (2 * (h % 16384) + 1)) % cells) < cells
    go true = omega arith
    go false = omega arith

-- A NAME THAT GETS A CELL

pub gets-few : (i p : ℕ) → ltb i 32768 && ltb p 65535 ≡ true → (i < 32768) × (p < 65535)
gets-few i p e = let z = (and-eq-true_iff _ _).0 e in (ltb-true i 32768 z.0, ltb-true p 65535 z.1)

pub tagged-plain : (key g h i : ℕ) (t : List ℕ) → key ≡ 0 → g ≡ tag h → set t (i + 1) g ≡ tagged key (tag h) i t
unfolding tagged
tagged-plain key g h i t e d = rw (eq-eqb key 0 e) (ap (set t (i + 1)) d)

pub tagged-keyed : (key g i : ℕ) (t : List ℕ) → (key ≡ 0 → ⊥) → t ≡ tagged key g i t
unfolding tagged
tagged-keyed key g i t d = rw (ne_eqb key 0 d)

pub entered-cell : (t t' : List ℕ) (key g i p : ℕ) → t' ≡ tagged key g i (set t i (p + 1)) → ltb i 32768 && ltb p 65535 ≡ true → (t' ≡ entered key g i p t) × (true ≡ gets i p)
unfolding entered gets
entered-cell t t' key g i p d e = (rw e d, sym e)

pub entered-none : (t : List ℕ) (key g i p : ℕ) → ltb i 32768 && ltb p 65535 ≡ false → (set t 32768 1 ≡ entered key g i p t) × (false ≡ gets i p)
unfolding entered gets
entered-none t key g i p e = (rw e, sym e)

-- a name more in the cell j, which was free
module _ (s t : List ℕ) (key j p g : ℕ) (few : j < cells) (long : length t ≡ cells + 1) (even : odd key j ≡ 0) (free : get_or t j 0 ≡ 0) where
  abbrev more : List ℕ
  more = tagged key g j (set t j (p + 1))

  -- other cells stay
  others : (k : ℕ) → odd key k ≡ 0 → (k ≡ j → ⊥) → get_or more k 0 ≡ get_or t k 0
  unfolding odd tagged
  others k o d = go (eqb key 0) o even
    where
      go : (b : Bool) → cond b (k % 2) 0 ≡ 0 → cond b (j % 2) 0 ≡ 0 → get_or (cond b (set (set t j (p + 1)) (j + 1) g) (set t j (p + 1))) k 0 ≡ get_or t k 0
      go true o e = get_or-set_other (set t j (p + 1)) (j + 1) k g 0 (λ (q : k ≡ j + 1). omega arith) ∙ get_or-set_other t j k (p + 1) 0 d
      go false o e = get_or-set_other t j k (p + 1) 0 d

  own : get_or more j 0 ≡ suc p
  unfolding tagged
  own = go (eqb key 0)
    where
      same : get_or (set t j (p + 1)) j 0 ≡ suc p
      same = get_or-set_same t j (p + 1) 0 (omega (arith, long, few)) ∙ add-one p

      go : (b : Bool) → get_or (cond b (set (set t j (p + 1)) (j + 1) g) (set t j (p + 1))) j 0 ≡ suc p
      go true = get_or-set_other (set t j (p + 1)) (j + 1) j g 0 (λ (q : j ≡ j + 1). omega arith) ∙ same
      go false = same

  -- a cell that was taken is another one, and stays
  apart : (i w : ℕ) → get_or t i 0 ≡ suc w → i ≡ j → ⊥
  apart i w e d = let z : suc w ≡ 0 = sym e ∙ ap (λ y. get_or t y 0) d ∙ free in omega arith

  module _ (n : Name) where
    -- and so does its tag
    of_others : (x k w : ℕ) → odd key k ≡ 0 → (k ≡ j → ⊥) → is_of s more n key x k w ≡ is_of s t n key x k w
    unfolding is_of odd tagged
    of_others x k w o d = go (eqb key 0) o even
      where
        go : (b : Bool) → cond b (k % 2) 0 ≡ 0 → cond b (j % 2) 0 ≡ 0
            → cond (b && not (eqb (get_or (cond b (set (set t j (p + 1)) (j + 1) g) (set t j (p + 1))) (k + 1) 0) x)) false (eq_name (raw_name s w) n) ≡ cond (b && not (eqb (get_or t (k + 1) 0) x)) false (eq_name (raw_name s w) n)
        go true o e = ap (λ y. cond (not (eqb y x)) false (eq_name (raw_name s w) n))
            (get_or-set_other (set t j (p + 1)) (j + 1) (k + 1) g 0 (λ (q : k + 1 ≡ j + 1). d (omega arith)) ∙ get_or-set_other t j (k + 1) (p + 1) 0 (λ (q : k + 1 ≡ j). omega arith))
        go false o e = refl

    of-own : eq_name (raw_name s p) n ≡ true → is_of s more n key g j p ≡ true
    unfolding is_of tagged
    of-own a = go (eqb key 0)
      where
        go : (b : Bool) → cond (b && not (eqb (get_or (cond b (set (set t j (p + 1)) (j + 1) g) (set t j (p + 1))) (j + 1) 0) g)) false (eq_name (raw_name s p) n) ≡ true
        go true =
            ap (λ y. cond (not (eqb y g)) false (eq_name (raw_name s p) n)) (get_or-set_same (set t j (p + 1)) (j + 1) g 0 (omega (arith, long, few, length-set t j (p + 1))))
            ∙ ap (λ (y : Bool). cond (not y) false (eq_name (raw_name s p) n)) (eq-eqb g g refl)
            ∙ a
        go false = a

    -- who found no free cell finds none now
    stays : (x f h i : ℕ) → i < cells → odd key i ≡ 0 → free_from f s t n key x h i (get_or t i 0) ≡ cells → free_from f s more n key x h i (get_or more i 0) ≡ cells
    unfolding free_from
    stays x zero h i l o e = refl
    stays x (suc f) h i l o e = go (get_or t i 0) refl (stays x f (h / 2) (after key h i) (after_less key h i) (odd-after key h i o)) e
      where
        Next : Type 0
        Next = free_from f s t n key x (h / 2) (after key h i) (get_or t (after key h i) 0) ≡ cells → free_from f s more n key x (h / 2) (after key h i) (get_or more (after key h i) 0) ≡ cells

        met : (b : Bool) → Next → cond b cells (free_from f s t n key x (h / 2) (after key h i) (get_or t (after key h i) 0)) ≡ cells → cond b cells (free_from f s more n key x (h / 2) (after key h i) (get_or more (after key h i) 0)) ≡ cells
        met true ih y = refl
        met false ih y = ih y

        go : (w : ℕ) → get_or t i 0 ≡ w → Next → free_from (suc f) s t n key x h i w ≡ cells → free_from (suc f) s more n key x h i (get_or more i 0) ≡ cells
        go zero q ih y = absurd (omega arith)
        go (suc w) q ih y =
            ap (free_from (suc f) s more n key x h i) (others i o (apart i w q) ∙ q)
            ∙ ap (λ (b : Bool). cond b cells (free_from f s more n key x (h / 2) (after key h i) (get_or more (after key h i) 0))) (of_others x i w o (apart i w q))
            ∙ met (is_of s t n key x i w) ih y

    -- the name whose cell it was meets itself there
    meets : eq_name (raw_name s p) n ≡ true → (f h i : ℕ) → odd key i ≡ 0 → free_from f s t n key g h i (get_or t i 0) ≡ j → free_from f s more n key g h i (get_or more i 0) ≡ cells
    unfolding free_from
    meets a zero h i o e = refl
    meets a (suc f) h i o e = go (get_or t i 0) refl (meets a f (h / 2) (after key h i) (odd-after key h i o)) e
      where
        Next : Type 0
        Next = free_from f s t n key g (h / 2) (after key h i) (get_or t (after key h i) 0) ≡ j → free_from f s more n key g (h / 2) (after key h i) (get_or more (after key h i) 0) ≡ cells

        met : (b : Bool) → Next → cond b cells (free_from f s t n key g (h / 2) (after key h i) (get_or t (after key h i) 0)) ≡ j → cond b cells (free_from f s more n key g (h / 2) (after key h i) (get_or more (after key h i) 0)) ≡ cells
        met true ih y = refl
        met false ih y = ih y

        go : (w : ℕ) → get_or t i 0 ≡ w → Next → free_from (suc f) s t n key g h i w ≡ j → free_from (suc f) s more n key g h i (get_or more i 0) ≡ cells
        go zero q ih y =
            ap (free_from (suc f) s more n key g h i) (ap (λ k. get_or more k 0) y ∙ own)
            ∙ ap (λ (b : Bool). cond b cells (free_from f s more n key g (h / 2) (after key h i) (get_or more (after key h i) 0))) (ap (λ k. is_of s more n key g k p) y ∙ of-own a)
        go (suc w) q ih y =
            ap (free_from (suc f) s more n key g h i) (others i o (apart i w q) ∙ q)
            ∙ ap (λ (b : Bool). cond b cells (free_from f s more n key g (h / 2) (after key h i) (get_or more (after key h i) 0))) (of_others g i w o (apart i w q))
            ∙ met (is_of s t n key g i w) ih y

-- what is found free is free, and a cell of the way
is_free_lem : (s t : List ℕ) (n : Name) (key g j : ℕ) → j < cells → (f h i : ℕ) → odd key i ≡ 0 → free_from f s t n key g h i (get_or t i 0) ≡ j → (get_or t j 0 ≡ 0) × (odd key j ≡ 0)
unfolding free_from
is_free_lem s t n key g j l zero h i o e = absurd (omega arith)
is_free_lem s t n key g j l (suc f) h i o e = go (get_or t i 0) refl (is_free_lem s t n key g j l f (h / 2) (after key h i) (odd-after key h i o)) e
  where
    Next : Type 0
    Next = free_from f s t n key g (h / 2) (after key h i) (get_or t (after key h i) 0) ≡ j → (get_or t j 0 ≡ 0) × (odd key j ≡ 0)

    met : (b : Bool) → Next → cond b cells (free_from f s t n key g (h / 2) (after key h i) (get_or t (after key h i) 0)) ≡ j → (get_or t j 0 ≡ 0) × (odd key j ≡ 0)
    met true ih y = absurd (omega arith)
    met false ih y = ih y

    go : (w : ℕ) → get_or t i 0 ≡ w → Next → free_from (suc f) s t n key g h i w ≡ j → (get_or t j 0 ≡ 0) × (odd key j ≡ 0)
    go zero q ih y = (ap (λ k. get_or t k 0) (sym y) ∙ q, ap (odd key) (sym y) ∙ o)
    go (suc w) q ih y = met (is_of s t n key g i w) ih y

-- NAMES ONE AFTER THE OTHER

pub tells_none : (s : List ℕ) (q key : ℕ) (t : List ℕ) → Tells s q 0 key t
unfolding Tells raw_names member
tells_none s q key t o y e = absurd (let z : ◌≡◌ {A = ℕ} 0 1 = cc in omega arith)

pub tells-not : (s : List ℕ) (q n key : ℕ) (t : List ℕ) → telling t ≡ false → Tells s q n key t
unfolding Tells
tells-not s q n key t e o y m = absurd (let z : ◌≡◌ {A = ℕ} 0 1 = cc in omega arith)

module _ (s : List ℕ) (q n p to key : ℕ) (t : List ℕ) (f : Follows s q n p to) (r : Tells s q n key t) (o : telling t ≡ true) (x : Name) (a : x ≡ raw_name s p) (h : ℕ) (b : h ≡ way key x) (i : ℕ) (e : i ≡ free_on s t key x h) where
  abbrev its : ℕ
  its = way key (raw_name s p)

  way-is : h ≡ its
  way-is = b ∙ ap (way key) a

  cell-is : i ≡ free_cell s t key (raw_name s p)
  cell-is = e ∙ ap (λ (y : Name). free_on s t key y h) a ∙ ap (free_on s t key (raw_name s p)) way-is

  -- a name that gets a cell is new
  pub tells-new : gets i p ≡ true → one_of s p n q ≡ false
  unfolding Tells one_of gets
  tells-new g = go (member (raw_name s p) (raw_names s n q)) refl
    where
      go : (b : Bool) → member (raw_name s p) (raw_names s n q) ≡ b → b ≡ false
      go true m = absurd (omega (arith, cell-is ∙ r o (raw_name s p) m, (gets-few i p g).0))
      go false m = refl

  raw-more : raw_names s (n + 1) q ≡ raw_names s n q ++ (raw_name s p ∷ [])
  raw-more = ap (λ k. raw_names s k q) (add-one n) ∙ raw_names-more s n q ∙ ap (λ k. raw_names s n q ++ (raw_name s k ∷ [])) f.here

  -- where it gets one, the names before it and itself find no free cell
  module _ (g : gets i p ≡ true) where
    abbrev next : List ℕ
    next = tagged key (tag its) i (set t i (p + 1))

    few : i < cells
    unfolding gets
    few = (gets-few i p g).0

    found : (get_or t i 0 ≡ 0) × (odd key i ≡ 0)
    unfolding free_on
    found = is_free_lem s t (raw_name s p) key (tag its) i few 256 _ _ (odd-first key its) (sym cell-is)

    old : (y : Name) → member y (raw_names s n q) ≡ true → free_cell s next key y ≡ cells
    unfolding free_on Tells
    old y m = let w = way key y in stays s t key i p (tag its) few (telling-long t o).0 found.1 found.0 y (tag w) 256 (w / cells) (first key w) (first-less key w) (odd-first key w) (r o y m)

    itself : free_cell s next key (raw_name s p) ≡ cells
    unfolding free_on
    itself = let y = raw_name s p in meets s t key i p (tag its) few (telling-long t o).0 found.1 found.0 y (eq_name-refl y) 256 (its / cells) (first key its) (odd-first key its) (sym cell-is)

    told : (y : Name) → member y (raw_names s n q) || member y (raw_name s p ∷ []) ≡ true → free_cell s next key y ≡ cells
    unfolding member
    told y m = pick (member y (raw_names s n q)) (eq_name y (raw_name s p)) refl refl m
      where
        pick : (a b : Bool) → member y (raw_names s n q) ≡ a → eq_name y (raw_name s p) ≡ b → a || (b || false) ≡ true → free_cell s next key y ≡ cells
        pick true b u z w = old y u
        pick false true u z w = subst (λ (v : Name). free_cell s next key v ≡ cells) (sym (eq_name-true y (raw_name s p) z)) itself
        pick false false u z w = absurd (let v : ◌≡◌ {A = ℕ} 0 1 = cc in omega arith)

  -- the table with a cell more, or given up
  by-gets : (b : Bool) → gets i p ≡ b → Tells s q (n + 1) key (cond b (tagged key (tag its) i (set t i (p + 1))) (set t cells 1))
  unfolding Tells
  by-gets false g v y m = absurd (omega (arith, (telling-long (set t cells 1) v).1, get_or-set_same t cells 1 0 (omega (arith, (telling-long t o).0))))
  by-gets true g v y m = told g y (sym (member-either y (raw_names s n q) (raw_name s p ∷ [])) ∙ sym (ap (member y) raw-more) ∙ m)

  pub tells_more : (t' : List ℕ) → t' ≡ entered key (tag h) i p t → Tells s q (n + 1) key t'
  unfolding entered
  tells_more t' c = subst (Tells s q (n + 1) key) (sym (c ∙ ap (λ y. cond (gets i p) (tagged key (tag y) i (set t i (p + 1))) (set t cells 1)) way-is)) (by-gets (gets i p) refl)
