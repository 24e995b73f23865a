-- Laws for the tables of outputs that drawn states, or all states of a machine, were found to give.
use Prim.Native.Nat.{ℕ, zero, suc, ◌+◌, ◌*◌, ◌-◌, ◌/◌, ◌%◌, ◌<◌, ◌≤◌}
use native.Mathlib.Nat.{mod-eq_of_lt}
use native.Mathlib.Omega.{arith}
use mathlib.Core.List.{List, [], ◌∷◌}
use mathlib.Core.Bool.{Bool, false, true, cond, ◌&&◌, false≢true}
use mathlib.Core.Path.{◌≡◌, refl, sym, ap, subst, ◌∙◌}
use lib.ListN.{length, get_or, set, length-set}
use lib.Seq.{get_or-set_other, get_or-set_same}
use lib.Dec.{eqb, ltb}
use borrow.Author.Tests.{eqb-true, eqb-false}
use Rattle.std.specs.Prelude.{Option as Maybe, None}
use Rattle.pack_rules.specs.Names.{Name}
use Rattle.machines.specs.declared.cover.OnlyLeft.{OnlyLeft}
use Rattle.wire.specs.declared.answer.Number.{Number}
use Rattle.machines.specs.CheckedReads.{number_in}
use Rattle.machines.specs.CoverAt.{gives_t, own_t, uncovered_t}
use Rattle.machines.specs.Memo.{regions_in, state_row}
use Rattle.machines.specs.MemoSound.{Blank}
use Rattle.machines.specs.AssignsMemo.{AssignmentSound, AssignsSound, Given, HintOf, assigns_mark, hint_put, hint_row, mark_cell}
use Rattle.machines.proofs.MemoLaws.{reached}
use Rattle.machines.proofs.CoverLaws.{gives-next, own_is, tells-done, tells-found, tells-rest}

-- of the states of one row at most one is kept
chosen : (b : Bool) (n : ℕ) → 0 < cond b n 0 → b ≡ true
chosen true n h = refl
chosen false n h = absurd (omega (arith, h))

in_row : (t : List ℕ) (p : ℕ) → 0 < regions_in t p → get_or t (state_row p) 0 ≡ p
unfolding regions_in
in_row t p h = eqb-true (get_or t (state_row p) 0) p (chosen (eqb (get_or t (state_row p) 0) p) _ h)

kept-once : (t : List ℕ) (p q : ℕ) → p / 10 ≡ q / 10 → 0 < regions_in t p → 0 < regions_in t q → p ≡ q
unfolding state_row
kept-once t p q e g h =
    let row : state_row p ≡ state_row q = omega (arith, e) in
    sym (in_row t p g) ∙ ap (λ (x : ℕ). get_or t x 0) row ∙ in_row t q h

-- a cell says something of one output, and it fits
pub mark-given : (out : ℕ) (b : Bool) → b ≡ true → 2 * out + 2 ≡ assigns_mark out b
unfolding assigns_mark
mark-given out b e = rw e

pub mark-not : (out : ℕ) (b : Bool) → b ≡ false → 2 * out + 1 ≡ assigns_mark out b
unfolding assigns_mark
mark-not out b e = rw e

mark-once : (a b : ℕ) (x y : Bool) → assigns_mark a x ≡ assigns_mark b y → (a ≡ b) × (x ≡ y)
unfolding assigns_mark
mark-once a b true true e = (omega (arith, e), refl)
mark-once a b true false e = absurd (omega (arith, e))
mark-once a b false true e = absurd (omega (arith, e))
mark-once a b false false e = (omega (arith, e), refl)

mark-some : (a : ℕ) (x : Bool) → 0 < assigns_mark a x
unfolding assigns_mark
mark-some a true = omega arith
mark-some a false = omega arith

mark-fits : (a : ℕ) (x : Bool) → a < 32767 → assigns_mark a x % 65536 ≡ assigns_mark a x
unfolding assigns_mark
mark-fits a true l = mod-eq_of_lt (omega (arith, l))
mark-fits a false l = mod-eq_of_lt (omega (arith, l))

-- what is left of a state's equations: all at first, then those after one, in the end none; and what the first of them gives
module _ (s : List ℕ) (names : ℕ) where
  pub rest_all : (at : ℕ) (i t : Number) → i ≡ number_in s at → t ≡ number_in s i.next → HintOf s names at t.value t.next
  unfolding HintOf
  rest_all at i t e f ns n x h = sym (own_is ns s x at i t _ e f refl) ∙ h

  pub rest-less : (at m q out : ℕ) (e : OnlyLeft) → HintOf s names at m q → 0 < m → ((ns : List Name) → length ns ≡ names → e ≡ gives_t ns s out q) → HintOf s names at (m - 1) e.next
  unfolding HintOf
  rest-less at m q out e h l f ns n x d = h ns n x (tells-rest (gives_t ns s x) m q e.next l (gives-next ns s out x q e (f ns n)) d)

  pub rest-none : (at m q : ℕ) → m ≤ 0 → HintOf s names at m q
  unfolding HintOf
  rest-none at m q l ns n x d = absurd (false≢true (tells-done (gives_t ns s x) m q true l d))

  pub rest_gives : (at m q out : ℕ) (e : OnlyLeft) → HintOf s names at m q → 0 < m → ((ns : List Name) → length ns ≡ names → e ≡ gives_t ns s out q) → e.yes ≡ true
      → (ns : List Name) → length ns ≡ names → true ≡ own_t ns s out at
  unfolding HintOf
  rest_gives at m q out e h l f y ns n = sym (h ns n out (sym (tells-found (gives_t ns s out) m q e _ l (f ns n) y refl)))

-- what was found before
pub told-before : (s : List ℕ) (names : ℕ) (memo hints : List ℕ) (out at c m : ℕ) (given : Bool) → AssignsSound s names memo hints → 0 < regions_in memo at
    → c ≡ get_or hints (768 + at / 10) 0 → m ≡ assigns_mark out given → c ≡ m → (ns : List Name) → length ns ≡ names → given ≡ own_t ns s out at
unfolding mark_cell
told-before s names memo hints out at c m given h l e f g ns n = sym (h.own ns n at out given l (sym e ∙ g ∙ f))

pub rest-before : (s : List ℕ) (names : ℕ) (memo hints : List ℕ) (at c m q : ℕ) → AssignsSound s names memo hints → c ≡ get_or hints (3 * (at / 10 % 256)) 0 → c ≡ at
    → m ≡ get_or hints (3 * (at / 10 % 256) + 2) 0 → q ≡ get_or hints (3 * (at / 10 % 256) + 1) 0 → HintOf s names at m q
unfolding hint_row
rest-before s names memo hints at c m q h e f g d = subst (λ (x : ℕ). HintOf s names at x q) (sym g) (subst (λ (x : ℕ). HintOf s names at (get_or hints (3 * (at / 10 % 256) + 2) 0) x) (sym d) (h.rest at (sym e ∙ f)))

-- a mark more
set_here : (t : List ℕ) (i a : ℕ) → 0 < get_or (set t i a) i 0 → get_or (set t i a) i 0 ≡ a
set_here [] i a h = absurd (omega (arith, h))
set_here (x ∷ t) zero a h = refl
set_here (x ∷ t) (suc i) a h = set_here t i a h

pub told_more : (s : List ℕ) (names : ℕ) (memo hints u : List ℕ) (out at m : ℕ) (given : Bool) → AssignsSound s names memo hints → 0 < regions_in memo at → out < 32767
    → ((ns : List Name) → length ns ≡ names → given ≡ own_t ns s out at) → m ≡ assigns_mark out given → u ≡ set hints (768 + at / 10) (m % 65536) → AssignsSound s names memo u
unfolding mark_cell hint_row
told_more s names memo hints u out at m given h l f g e d =
    record {
      own = λ ns n p o b k c. go ns n p o b k (eqb (p / 10) (at / 10)) refl c;
      rest = λ p. rw (row p 0 (3 * (p / 10 % 256)) (omega arith) (omega arith), row p 1 (3 * (p / 10 % 256) + 1) (omega arith) refl, row p 2 (3 * (p / 10 % 256) + 2) (omega arith) refl) (h.rest p);
    }
  where
    cells : (i : ℕ) → get_or u i 0 ≡ get_or (set hints (768 + at / 10) (assigns_mark out given)) i 0
    cells i = ap (λ (x : List ℕ). get_or x i 0) d ∙ ap (λ (x : ℕ). get_or (set hints (768 + at / 10) x) i 0) (ap (λ (x : ℕ). x % 65536) e ∙ mark-fits out given f)

    other : (i : ℕ) → (i ≡ 768 + at / 10 → ⊥) → get_or u i 0 ≡ get_or hints i 0
    other i n = cells i ∙ get_or-set_other hints (768 + at / 10) i (assigns_mark out given) 0 n

    row : (p i j : ℕ) → i < 3 → j ≡ 3 * (p / 10 % 256) + i → get_or u j 0 ≡ get_or hints j 0
    row p i j n y = other j (λ x. omega (arith, x, n, y))

    go : (ns : List Name) → length ns ≡ names → (p o : ℕ) (b : Bool) → 0 < regions_in memo p → (x : Bool) → eqb (p / 10) (at / 10) ≡ x → get_or u (768 + p / 10) 0 ≡ assigns_mark o b → own_t ns s o p ≡ b
    go ns n p o b k true i c =
        let r = eqb-true (p / 10) (at / 10) i in
        let v : get_or (set hints (768 + at / 10) (assigns_mark out given)) (768 + at / 10) 0 ≡ assigns_mark o b = ap (λ (x : ℕ). get_or (set hints (768 + at / 10) (assigns_mark out given)) (768 + x) 0) (sym r) ∙ sym (cells (768 + p / 10)) ∙ c in
        let w = mark-once out o given b (sym (set_here hints (768 + at / 10) (assigns_mark out given) (subst (λ (x : ℕ). 0 < x) (sym v) (mark-some o b))) ∙ v) in
        (λ j. own_t ns s (sym w.0 j) (kept-once memo p at r k l j)) ∙ sym (g ns n) ∙ w.1
    go ns n p o b k false i c =
        let r = eqb-false (p / 10) (at / 10) i in
        h.own ns n p o b k (sym (other (768 + p / 10) (λ x. r (omega (arith, x)))) ∙ c)

-- what the code puts into a row

rest-cases : (P : List ℕ → Type 0) (t : List ℕ) (p n q : ℕ) → P t → P (set (set (set t (hint_row p) p) (hint_row p + 1) q) (hint_row p + 2) n) → P (hint_put t p n q)
unfolding hint_put
rest-cases P t p n q x y = go (ltb p 65536 && (ltb n 65536 && ltb q 65536))
  where
    go : (b : Bool) → P (cond b (set (set (set t (hint_row p) p) (hint_row p + 1) q) (hint_row p + 2) n) t)
    go true = y
    go false = x

-- rows and marks are apart
rows_apart : (p at i j : ℕ) → i < 3 → j < 3 → hint_row p + i ≡ hint_row at + j → hint_row p ≡ hint_row at
unfolding hint_row
rows_apart p at i j l k x = omega (arith, l, k, x)

mark-apart : (p at j : ℕ) → j < 3 → mark_cell p ≡ hint_row at + j → ⊥
unfolding mark_cell hint_row
mark-apart p at j k x = omega (arith, k, x)

-- three cells more: these, where the last is not 0, and all others
module _ (t : List ℕ) (r a b c : ℕ) where
  abbrev three : List ℕ
  three = set (set (set t r a) (r + 1) b) (r + 2) c

  three-here : 0 < get_or three (r + 2) 0 → (get_or three r 0 ≡ a) × (get_or three (r + 1) 0 ≡ b) × (get_or three (r + 2) 0 ≡ c)
  three-here h =
      let l : r + 2 < length three = reached three (r + 2) h in
      let z = length-set (set (set t r a) (r + 1) b) (r + 2) c in
      let y = length-set (set t r a) (r + 1) b in
      let x = length-set t r a in (
        get_or-set_other (set (set t r a) (r + 1) b) (r + 2) r c 0 (λ e. omega (arith, e))
            ∙ get_or-set_other (set t r a) (r + 1) r b 0 (λ e. omega (arith, e))
            ∙ get_or-set_same t r a 0 (omega (arith, l, x, y, z)),
        get_or-set_other (set (set t r a) (r + 1) b) (r + 2) (r + 1) c 0 (λ e. omega (arith, e))
            ∙ get_or-set_same (set t r a) (r + 1) b 0 (omega (arith, l, y, z)),
        get_or-set_same (set (set t r a) (r + 1) b) (r + 2) c 0 (omega (arith, l, z)),
      )

  three-other : (i : ℕ) → ((j : ℕ) → j < 3 → i ≡ r + j → ⊥) → get_or three i 0 ≡ get_or t i 0
  three-other i n =
      get_or-set_other (set (set t r a) (r + 1) b) (r + 2) i c 0 (n 2 (omega arith))
      ∙ get_or-set_other (set t r a) (r + 1) i b 0 (n 1 (omega arith))
      ∙ get_or-set_other t r i a 0 (λ e. n 0 (omega arith) (omega (arith, e)))

-- a row more
pub rest_more : (s : List ℕ) (names : ℕ) (memo hints u : List ℕ) (at m q : ℕ) → AssignsSound s names memo hints → HintOf s names at m q → u ≡ hint_put hints at m q → AssignsSound s names memo u
rest_more s names memo hints u at m q h f e = subst (AssignsSound s names memo) (sym e) (rest-cases (AssignsSound s names memo) hints at m q h right)
  where
    v : List ℕ
    v = three hints (hint_row at) at q m

    apart : (p i j : ℕ) → i < 3 → j ≡ hint_row p + i → (hint_row p ≡ hint_row at → ⊥) → get_or v j 0 ≡ get_or hints j 0
    apart p i j l y n = three-other hints (hint_row at) at q m j (λ o k x. n (rows_apart p at i o l k (sym y ∙ x)))

    mark : (p : ℕ) → get_or v (mark_cell p) 0 ≡ get_or hints (mark_cell p) 0
    mark p = three-other hints (hint_row at) at q m (mark_cell p) (λ j k x. mark-apart p at j k x)

    same : (p : ℕ) → hint_row p ≡ hint_row at → get_or v (hint_row at) 0 ≡ p → (x : ℕ) → get_or v (hint_row at + 2) 0 ≡ x → HintOf s names p (get_or v (hint_row at + 2) 0) (get_or v (hint_row at + 1) 0)
    same p r g zero z = rest-none s names p _ _ (omega (arith, z))
    same p r g (suc x) z =
        let w = three-here hints (hint_row at) at q m (omega (arith, z)) in
        rw (w.1, w.2) (subst (λ (y : ℕ). HintOf s names y m q) (sym w.0 ∙ g) f)

    row : (p : ℕ) (b : Bool) → eqb (hint_row p) (hint_row at) ≡ b → get_or v (hint_row p) 0 ≡ p → HintOf s names p (get_or v (hint_row p + 2) 0) (get_or v (hint_row p + 1) 0)
    row p true k g =
        let r = eqb-true (hint_row p) (hint_row at) k in
        rw r (same p r (ap (λ (x : ℕ). get_or v x 0) (sym r) ∙ g) _ refl)
    row p false k g =
        let n = eqb-false (hint_row p) (hint_row at) k in
        rw (apart p 1 (hint_row p + 1) (omega arith) refl n, apart p 2 (hint_row p + 2) (omega arith) refl n) (h.rest p (sym (apart p 0 (hint_row p) (omega arith) (omega arith) n) ∙ g))

    right : AssignsSound s names memo v
    right = record {
      own = λ ns n p o b k c. h.own ns n p o b k (sym (mark p) ∙ c);
      rest = λ p. row p (eqb (hint_row p) (hint_row at)) refl;
    }

-- a table of zeros is right
pub blank-told : (s : List ℕ) (names : ℕ) (memo hints : List ℕ) → Blank hints → AssignsSound s names memo hints
blank-told s names memo hints h = record {
  own = λ ns n p out b l e. absurd (omega (arith, h (mark_cell p), e, mark-some out b));
  rest = λ p e. rest-none s names p _ _ (omega (arith, h (hint_row p + 2)));
}

-- an output that was found given
module _ (s : List ℕ) (names : ℕ) (t : List ℕ) where
  given-now : (x : ℕ) (m : Maybe ℕ) → ((ns : List Name) → length ns ≡ names → m ≡ uncovered_t ns s t x 8 0) → m ≡ None → Given s names t x
  unfolding Given
  given-now x m h e ns n = sym (h ns n) ∙ e

  pub given-zero : (x : ℕ) (m : Maybe ℕ) → ((ns : List Name) → length ns ≡ names → m ≡ uncovered_t ns s t x 8 0) → m ≡ None → (ns : List Name) → length ns ≡ names → None ≡ uncovered_t ns s t x 8 0
  given-zero x m h e ns n = sym e ∙ h ns n

  pub given-before : (given : List ℕ) (x c : ℕ) → AssignmentSound s names t given → c ≡ get_or given x 0 → 0 < c → (ns : List Name) → length ns ≡ names → None ≡ uncovered_t ns s t x 8 0
  unfolding Given
  given-before given x c h e l ns n = sym (h.known x (subst (λ (y : ℕ). 0 < y) e l) ns n)

  -- an output more
  pub given-more : (given u : List ℕ) (x : ℕ) (m : Maybe ℕ) → AssignmentSound s names t given → ((ns : List Name) → length ns ≡ names → m ≡ uncovered_t ns s t x 8 0) → m ≡ None → u ≡ set given x 1 → AssignmentSound s names t u
  given-more given u x m h f e d = record { known = λ y l. go y (eqb y x) refl (subst (λ (v : List ℕ). 0 < get_or v y 0) d l) }
    where
      go : (y : ℕ) (b : Bool) → eqb y x ≡ b → 0 < get_or (set given x 1) y 0 → Given s names t y
      go y true k l = subst (Given s names t) (sym (eqb-true y x k)) (given-now x m f e)
      go y false k l = h.known y (subst (λ (v : ℕ). 0 < v) (get_or-set_other given x y 1 0 (eqb-false y x k)) l)

  pub blank-given : (given : List ℕ) → Blank given → AssignmentSound s names t given
  blank-given given h = record { known = λ x l. absurd (omega (arith, h x, l)) }
