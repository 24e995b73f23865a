-- Laws of the table that keeps rows and states.
use Prim.Native.Nat.{ℕ, ◌+◌, ◌*◌, ◌/◌, ◌%◌, ◌<◌, ◌≤◌}
use native.Mathlib.Nat.{mod-eq_of_lt}
use native.Mathlib.Omega.{arith}
use mathlib.Core.List.{List}
use mathlib.Core.Bool.{Bool, false, true, cond, ◌&&◌}
use mathlib.Core.Path.{◌≡◌, refl, sym, ap, subst, ◌∙◌}
use lib.ListN.{length, get_or, set, length-set, get_or-eq_default}
use lib.Seq.{get_or-set_other, get_or-set_same}
use lib.Dec.{eqb, ltb}
use borrow.Author.Tests.{eq-eqb, ne_eqb, lt-ltb, le-ltb, eqb-true, eqb-false, ltb-true, ltb-false}
use Rattle.machines.specs.Memo.{beside_in, kept_in, longest_in, mark_in, moves_in, past_in, regions_in, row_mark, row_put, state_put, state_row, value_in}

-- what the code does
pub kept-far : (t : List ℕ) (p k : ℕ) → 65536 ≤ p → 0 ≡ kept_in t p k
unfolding kept_in
kept-far t p k h = rw (le-ltb p 65536 h)

pub kept-is : (t : List ℕ) (p k m e : ℕ) → p < 65536 → m ≡ get_or t (2 * (p / 5)) 0 → m % 32 ≡ p % 5 + k → e ≡ get_or t (2 * (p / 5) + 1) 0 → e ≡ kept_in t p k
unfolding kept_in mark_in value_in
kept-is t p k m e h g w v = rw (lt-ltb p 65536 h, eq-eqb (get_or t (2 * (p / 5)) 0 % 32) (p % 5 + k) (ap (λ (x : ℕ). x % 32) (sym g) ∙ w)) v

pub kept-not : (t : List ℕ) (p k m : ℕ) → p < 65536 → m ≡ get_or t (2 * (p / 5)) 0 → (m % 32 ≡ p % 5 + k → ⊥) → 0 ≡ kept_in t p k
unfolding kept_in mark_in
kept-not t p k m h g w = rw (lt-ltb p 65536 h, ne_eqb (get_or t (2 * (p / 5)) 0 % 32) (p % 5 + k) (λ x. w (ap (λ (y : ℕ). y % 32) g ∙ x)))

pub beside-is : (t : List ℕ) (p m r : ℕ) → m ≡ get_or t (2 * (p / 5)) 0 → r ≡ m / 32 → r ≡ beside_in t p
unfolding beside_in mark_in
beside-is t p m r h g = g ∙ ap (λ (x : ℕ). x / 32) h

pub mark-is : (t u : List ℕ) (p k x v : ℕ) → u ≡ row_put t p (p % 5 + k + 32 * x) v → u ≡ row_put t p (row_mark p k x) v
unfolding row_mark
mark-is t u p k x v h = h

pub state-row-is : (p r : ℕ) → r ≡ 26216 + 5 * (p / 10) → r ≡ state_row p
unfolding state_row
state-row-is p r h = h

pub longest-is : (t : List ℕ) (p b r : ℕ) → b ≡ state_row p → r ≡ get_or t (b + 1) 0 → r ≡ longest_in t p
unfolding longest_in
longest-is t p b r h g = g ∙ ap (λ (x : ℕ). get_or t (x + 1) 0) h

pub moves-is : (t : List ℕ) (p b r : ℕ) → b ≡ state_row p → r ≡ get_or t (b + 2) 0 → r ≡ moves_in t p
unfolding moves_in
moves-is t p b r h g = g ∙ ap (λ (x : ℕ). get_or t (x + 2) 0) h

pub past_is : (t : List ℕ) (p b r : ℕ) → b ≡ state_row p → r ≡ get_or t (b + 3) 0 → r ≡ past_in t p
unfolding past_in
past_is t p b r h g = g ∙ ap (λ (x : ℕ). get_or t (x + 3) 0) h

pub regions-is : (t : List ℕ) (p b m r : ℕ) → b ≡ state_row p → m ≡ get_or t b 0 → m ≡ p → r ≡ get_or t (b + 4) 0 → r ≡ regions_in t p
unfolding regions_in
regions-is t p b m r h g w v = rw (eq-eqb (get_or t (state_row p) 0) p (ap (λ (x : ℕ). get_or t x 0) (sym h) ∙ sym g ∙ w)) (v ∙ ap (λ (x : ℕ). get_or t (x + 4) 0) h)

pub regions-not : (t : List ℕ) (p b m : ℕ) → b ≡ state_row p → m ≡ get_or t b 0 → (m ≡ p → ⊥) → 0 ≡ regions_in t p
unfolding regions_in
regions-not t p b m h g w = rw (ne_eqb (get_or t (state_row p) 0) p (λ x. w (g ∙ ap (λ (y : ℕ). get_or t y 0) h ∙ x)))

pub state-put-is : (t u v w x z : List ℕ) (p l m o r b : ℕ) → p < 65536 → l < 65536 → m < 65536 → o < 65536 → r < 65536 → b ≡ state_row p
    → u ≡ set t b (p % 65536) → v ≡ set u (b + 1) (l % 65536) → w ≡ set v (b + 2) (m % 65536) → x ≡ set w (b + 3) (o % 65536) → z ≡ set x (b + 4) (r % 65536) → z ≡ state_put t p l m o r
unfolding state_put
state-put-is t u v w x z p l m o r b hp hl hm ho hr h e1 e2 e3 e4 e5 =
    e5
    ∙ (λ i. set (e4 i) (b + 4) (mod-eq_of_lt hr i))
    ∙ (λ i. set (set (e3 i) (b + 3) (mod-eq_of_lt ho i)) (b + 4) r)
    ∙ (λ i. set (set (set (e2 i) (b + 2) (mod-eq_of_lt hm i)) (b + 3) o) (b + 4) r)
    ∙ (λ i. set (set (set (set (e1 i) (b + 1) (mod-eq_of_lt hl i)) (b + 2) m) (b + 3) o) (b + 4) r)
    ∙ (λ i. set (set (set (set (set t (h i) (mod-eq_of_lt hp i)) (h i + 1) l) (h i + 2) m) (h i + 3) o) (h i + 4) r)

-- where a cell is not 0 there is one
pub reached : (t : List ℕ) (i : ℕ) → 0 < get_or t i 0 → i < length t
reached t i h = go (ltb i (length t)) refl
  where
    go : (b : Bool) → ltb i (length t) ≡ b → i < length t
    go true e = ltb-true i (length t) e
    go false e = absurd (omega (arith, get_or-eq_default t 0 (ltb-false i (length t) e), h))

-- by cases: a row that is put or not, a value that is kept or not, a state that is kept or not
row-cases : (P : List ℕ → Type 0) (t : List ℕ) (p m v : ℕ) → P t → (p < 65536 → P (set (set t (2 * (p / 5)) m) (2 * (p / 5) + 1) v)) → P (row_put t p m v)
unfolding row_put
row-cases P t p m v x y = go (ltb p 65536) refl
  where
    on : (b : Bool) → p < 65536 → P (cond (true && b) (set (set t (2 * (p / 5)) m) (2 * (p / 5) + 1) v) t)
    on true h = y h
    on false h = x

    go : (b : Bool) → ltb p 65536 ≡ b → P (cond (ltb p 65536 && (ltb m 65536 && ltb v 65536)) (set (set t (2 * (p / 5)) m) (2 * (p / 5) + 1) v) t)
    go true h = rw h (on (ltb m 65536 && ltb v 65536) (ltb-true p 65536 h))
    go false h = rw h x

pub kept-cases : (P : ℕ → Type 0) (t : List ℕ) (p k : ℕ) → P 0 → (p < 65536 → mark_in t p % 32 ≡ p % 5 + k → P (value_in t p)) → P (kept_in t p k)
unfolding kept_in
kept-cases P t p k x y = go (ltb p 65536) (eqb (mark_in t p % 32) (p % 5 + k)) refl refl
  where
    go : (b c : Bool) → ltb p 65536 ≡ b → eqb (mark_in t p % 32) (p % 5 + k) ≡ c → P (cond (ltb p 65536) (cond (eqb (mark_in t p % 32) (p % 5 + k)) (value_in t p) 0) 0)
    go true true h g = rw (h, g) (y (ltb-true p 65536 h) (eqb-true (mark_in t p % 32) (p % 5 + k) g))
    go true false h g = rw (h, g) x
    go false c h g = rw h x

regions-cases : (P : ℕ → Type 0) (t : List ℕ) (p : ℕ) → P 0 → (get_or t (state_row p) 0 ≡ p → P (get_or t (state_row p + 4) 0)) → P (regions_in t p)
unfolding regions_in
regions-cases P t p x y = go (eqb (get_or t (state_row p) 0) p) refl
  where
    go : (b : Bool) → eqb (get_or t (state_row p) 0) p ≡ b → P (cond (eqb (get_or t (state_row p) 0) p) (get_or t (state_row p + 4) 0) 0)
    go true h = rw h (y (eqb-true (get_or t (state_row p) 0) p h))
    go false h = rw h x

-- one row more: what rows say stays right, where this one is right for all that could be meant by it
pub rows-put : (G : ℕ → ℕ → ℕ → Type 0) (t : List ℕ) (p m v : ℕ) → ((q : ℕ) → q < 65536 → 0 < value_in t q → G q (mark_in t q) (value_in t q)) → ((q : ℕ) → q / 5 ≡ p / 5 → G q m v)
    → (q : ℕ) → q < 65536 → 0 < value_in (row_put t p m v) q → G q (mark_in (row_put t p m v) q) (value_in (row_put t p m v) q)
unfolding mark_in value_in
rows-put G t p m v h d q n = row-cases (λ (x : List ℕ). 0 < get_or x (2 * (q / 5) + 1) 0 → G q (get_or x (2 * (q / 5)) 0) (get_or x (2 * (q / 5) + 1) 0)) t p m v (h q n) (λ l z. go (eqb (q / 5) (p / 5)) refl z)
  where
    u : List ℕ
    u = set (set t (2 * (p / 5)) m) (2 * (p / 5) + 1) v

    go : (b : Bool) → eqb (q / 5) (p / 5) ≡ b → 0 < get_or u (2 * (q / 5) + 1) 0 → G q (get_or u (2 * (q / 5)) 0) (get_or u (2 * (q / 5) + 1) 0)
    go true g z =
        let r = eqb-true (q / 5) (p / 5) g in
        let w : 2 * (p / 5) + 1 < length u = reached u (2 * (p / 5) + 1) (subst (λ (x : ℕ). 0 < get_or u (2 * x + 1) 0) r z) in
        let o : 2 * (p / 5) + 1 < length (set t (2 * (p / 5)) m) = omega (arith, w, length-set (set t (2 * (p / 5)) m) (2 * (p / 5) + 1) v) in
        let a : get_or u (2 * (q / 5)) 0 ≡ m =
        ap (λ (x : ℕ). get_or u (2 * x) 0) r
        ∙ get_or-set_other (set t (2 * (p / 5)) m) (2 * (p / 5) + 1) (2 * (p / 5)) v 0 (λ x. omega (arith, x))
        ∙ get_or-set_same t (2 * (p / 5)) m 0 (omega (arith, o, length-set t (2 * (p / 5)) m)) in
        let b : get_or u (2 * (q / 5) + 1) 0 ≡ v = ap (λ (x : ℕ). get_or u (2 * x + 1) 0) r ∙ get_or-set_same (set t (2 * (p / 5)) m) (2 * (p / 5) + 1) v 0 o in
        rw (a, b) (d q r)
    go false g z =
        let r = eqb-false (q / 5) (p / 5) g in
        let a : get_or u (2 * (q / 5)) 0 ≡ get_or t (2 * (q / 5)) 0 =
        get_or-set_other (set t (2 * (p / 5)) m) (2 * (p / 5) + 1) (2 * (q / 5)) v 0 (λ x. omega (arith, x))
        ∙ get_or-set_other t (2 * (p / 5)) (2 * (q / 5)) m 0 (λ x. r (omega (arith, x))) in
        let b : get_or u (2 * (q / 5) + 1) 0 ≡ get_or t (2 * (q / 5) + 1) 0 =
        get_or-set_other (set t (2 * (p / 5)) m) (2 * (p / 5) + 1) (2 * (q / 5) + 1) v 0 (λ x. r (omega (arith, x)))
        ∙ get_or-set_other t (2 * (p / 5)) (2 * (q / 5) + 1) m 0 (λ x. omega (arith, x)) in
        rw (a, b) (h q n (subst (λ (x : ℕ). 0 < x) b z))

-- a row more leaves what is kept of states
low : (t : List ℕ) (p m v i : ℕ) → 26216 ≤ i → get_or (row_put t p m v) i 0 ≡ get_or t i 0
low t p m v i h = row-cases (λ (u : List ℕ). get_or u i 0 ≡ get_or t i 0) t p m v refl (λ l.
    get_or-set_other (set t (2 * (p / 5)) m) (2 * (p / 5) + 1) i v 0 (λ x. omega (arith, x, l, h))
    ∙ get_or-set_other t (2 * (p / 5)) i m 0 (λ x. omega (arith, x, l, h)))

pub states-put : (G : ℕ → ℕ → ℕ → ℕ → ℕ → Type 0) (t : List ℕ) (p m v : ℕ) → ((q : ℕ) → 0 < regions_in t q → G q (longest_in t q) (moves_in t q) (past_in t q) (regions_in t q))
    → (q : ℕ) → 0 < regions_in (row_put t p m v) q → G q (longest_in (row_put t p m v) q) (moves_in (row_put t p m v) q) (past_in (row_put t p m v) q) (regions_in (row_put t p m v) q)
unfolding longest_in moves_in regions_in past_in state_row
states-put G t p m v h q =
    rw (low t p m v (26216 + 5 * (q / 10)) (omega arith), low t p m v (26216 + 5 * (q / 10) + 1) (omega arith), low t p m v (26216 + 5 * (q / 10) + 2) (omega arith), low t p m v (26216 + 5 * (q / 10) + 3) (omega arith), low t p m v (26216 + 5 * (q / 10) + 4) (omega arith)) (h q)

-- one state more leaves the cells outside its row
apart : (t : List ℕ) (p l m o r i : ℕ) → ((j : ℕ) → j < 5 → i ≡ state_row p + j → ⊥) → get_or (state_put t p l m o r) i 0 ≡ get_or t i 0
unfolding state_put
apart t p l m o r i d =
    get_or-set_other (set (set (set (set t (state_row p) p) (state_row p + 1) l) (state_row p + 2) m) (state_row p + 3) o) (state_row p + 4) i r 0 (d 4 (omega arith))
    ∙ get_or-set_other (set (set (set t (state_row p) p) (state_row p + 1) l) (state_row p + 2) m) (state_row p + 3) i o 0 (d 3 (omega arith))
    ∙ get_or-set_other (set (set t (state_row p) p) (state_row p + 1) l) (state_row p + 2) i m 0 (d 2 (omega arith))
    ∙ get_or-set_other (set t (state_row p) p) (state_row p + 1) i l 0 (d 1 (omega arith))
    ∙ get_or-set_other t (state_row p) i p 0 (λ x. d 0 (omega arith) (omega (arith, x)))

high : (t : List ℕ) (p l m o r i : ℕ) → i < 26216 → get_or (state_put t p l m o r) i 0 ≡ get_or t i 0
unfolding state_row
high t p l m o r i h = apart t p l m o r i (λ j k x. omega (arith, x, h))

-- and the rows
pub rows-state : (G : ℕ → ℕ → ℕ → Type 0) (t : List ℕ) (p l m o r : ℕ) → ((q : ℕ) → q < 65536 → 0 < value_in t q → G q (mark_in t q) (value_in t q))
    → (q : ℕ) → q < 65536 → 0 < value_in (state_put t p l m o r) q → G q (mark_in (state_put t p l m o r) q) (value_in (state_put t p l m o r) q)
unfolding mark_in value_in
rows-state G t p l m o r h q n = rw (high t p l m o r (2 * (q / 5)) (omega (arith, n)), high t p l m o r (2 * (q / 5) + 1) (omega (arith, n))) (h q n)

-- the row of the state that was put
held : (t : List ℕ) (p l m o r : ℕ) → state_row p + 4 < length (state_put t p l m o r)
    → (get_or (state_put t p l m o r) (state_row p) 0 ≡ p)
    × (get_or (state_put t p l m o r) (state_row p + 1) 0 ≡ l)
    × (get_or (state_put t p l m o r) (state_row p + 2) 0 ≡ m)
    × (get_or (state_put t p l m o r) (state_row p + 3) 0 ≡ o)
    × (get_or (state_put t p l m o r) (state_row p + 4) 0 ≡ r)
unfolding state_put
held t p l m o r h = (
  other 4 t4 r (state_row p) (λ x. omega (arith, x)) ∙ other 3 t3 o (state_row p) (λ x. omega (arith, x)) ∙ other 2 t2 m (state_row p) (λ x. omega (arith, x)) ∙ other 1 t1 l (state_row p) (λ x. omega (arith, x)) ∙ get_or-set_same t (state_row p) p 0 (omega (arith, lengths, h)),
  other 4 t4 r (state_row p + 1) (λ x. omega (arith, x)) ∙ other 3 t3 o (state_row p + 1) (λ x. omega (arith, x)) ∙ other 2 t2 m (state_row p + 1) (λ x. omega (arith, x)) ∙ get_or-set_same t1 (state_row p + 1) l 0 (omega (arith, lengths, h)),
  other 4 t4 r (state_row p + 2) (λ x. omega (arith, x)) ∙ other 3 t3 o (state_row p + 2) (λ x. omega (arith, x)) ∙ get_or-set_same t2 (state_row p + 2) m 0 (omega (arith, lengths, h)),
  other 4 t4 r (state_row p + 3) (λ x. omega (arith, x)) ∙ get_or-set_same t3 (state_row p + 3) o 0 (omega (arith, lengths, h)),
  get_or-set_same t4 (state_row p + 4) r 0 (omega (arith, lengths, h)),
)
  where
    t1 : List ℕ
    t1 = set t (state_row p) p

    t2 : List ℕ
    t2 = set t1 (state_row p + 1) l

    t3 : List ℕ
    t3 = set t2 (state_row p + 2) m

    t4 : List ℕ
    t4 = set t3 (state_row p + 3) o

    lengths : (length t1 ≡ length t) × (length t2 ≡ length t1) × (length t3 ≡ length t2) × (length t4 ≡ length t3) × (length (set t4 (state_row p + 4) r) ≡ length t4)
    lengths = (length-set t (state_row p) p, length-set t1 (state_row p + 1) l, length-set t2 (state_row p + 2) m, length-set t3 (state_row p + 3) o, length-set t4 (state_row p + 4) r)

    other : (j : ℕ) (u : List ℕ) (v i : ℕ) → (i ≡ state_row p + j → ⊥) → get_or (set u (state_row p + j) v) i 0 ≡ get_or u i 0
    other j u v i x = get_or-set_other u (state_row p + j) i v 0 x

same_row : (p q : ℕ) → p / 10 ≡ q / 10 → state_row p ≡ state_row q
unfolding state_row
same_row p q h = ap (λ (x : ℕ). 26216 + 5 * x) h

other_row : (t : List ℕ) (p l m o r q i : ℕ) → (q / 10 ≡ p / 10 → ⊥) → i < 5 → get_or (state_put t p l m o r) (state_row q + i) 0 ≡ get_or t (state_row q + i) 0
unfolding state_row
other_row t p l m o r q i n h = apart t p l m o r (26216 + 5 * (q / 10) + i) (λ j k x. n (omega (arith, x, h, k)))

kept_row : (t : List ℕ) (q : ℕ) → get_or t (state_row q) 0 ≡ q → get_or t (state_row q + 4) 0 ≡ regions_in t q
kept_row t q h = regions-is t q (state_row q) (get_or t (state_row q) 0) (get_or t (state_row q + 4) 0) refl refl h refl

-- one state more
pub states-more : (G : ℕ → ℕ → ℕ → ℕ → ℕ → Type 0) (t : List ℕ) (p l m o r : ℕ) → ((q : ℕ) → 0 < regions_in t q → G q (longest_in t q) (moves_in t q) (past_in t q) (regions_in t q)) → G p l m o r
    → (q : ℕ) → 0 < regions_in (state_put t p l m o r) q → G q (longest_in (state_put t p l m o r) q) (moves_in (state_put t p l m o r) q) (past_in (state_put t p l m o r) q) (regions_in (state_put t p l m o r) q)
unfolding longest_in moves_in past_in
states-more G t p l m o r h g q = regions-cases (λ (x : ℕ). 0 < x → G q (get_or u (state_row q + 1) 0) (get_or u (state_row q + 2) 0) (get_or u (state_row q + 3) 0) x) u q (λ x. absurd (omega (arith, x))) (λ i z. go (eqb (q / 10) (p / 10)) refl i z)
  where
    u : List ℕ
    u = state_put t p l m o r

    go : (b : Bool) → eqb (q / 10) (p / 10) ≡ b → get_or u (state_row q) 0 ≡ q → 0 < get_or u (state_row q + 4) 0 → G q (get_or u (state_row q + 1) 0) (get_or u (state_row q + 2) 0) (get_or u (state_row q + 3) 0) (get_or u (state_row q + 4) 0)
    go true e i z =
        let a : state_row q ≡ state_row p = same_row q p (eqb-true (q / 10) (p / 10) e) in
        let w = held t p l m o r (subst (λ (x : ℕ). x + 4 < length u) a (reached u (state_row q + 4) z)) in
        let s : p ≡ q = sym w.0 ∙ ap (λ (x : ℕ). get_or u x 0) (sym a) ∙ i in
        subst (λ (x : ℕ). G x (get_or u (state_row q + 1) 0) (get_or u (state_row q + 2) 0) (get_or u (state_row q + 3) 0) (get_or u (state_row q + 4) 0)) s
        (rw (a, w.1, w.2, w.3, w.4) g)
    go false e i z =
        let n = eqb-false (q / 10) (p / 10) e in
        let f : get_or u (state_row q) 0 ≡ get_or t (state_row q) 0 = ap (λ (x : ℕ). get_or u x 0) (omega arith) ∙ other_row t p l m o r q 0 n (omega arith) ∙ ap (λ (x : ℕ). get_or t x 0) (omega arith) in
        let c : get_or u (state_row q + 4) 0 ≡ regions_in t q = other_row t p l m o r q 4 n (omega arith) ∙ kept_row t q (sym f ∙ i) in
        rw (other_row t p l m o r q 1 n (omega arith), other_row t p l m o r q 2 n (omega arith), other_row t p l m o r q 3 n (omega arith), c) (h q (subst (λ (x : ℕ). 0 < x) c z))

-- a table of zeros keeps nothing
pub rows_none : (t : List ℕ) (p : ℕ) → ((i : ℕ) → get_or t i 0 ≡ 0) → value_in t p ≡ 0
unfolding value_in
rows_none t p h = h (2 * (p / 5) + 1)

pub regions-none : (t : List ℕ) (p : ℕ) → ((i : ℕ) → get_or t i 0 ≡ 0) → regions_in t p ≡ 0
regions-none t p h = regions-cases (λ (x : ℕ). x ≡ 0) t p refl (λ l. h (state_row p + 4))
