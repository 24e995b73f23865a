-- Laws for the code that counts what machines bring, step by step.
use Prim.Native.Nat.{ℕ, zero, suc, ◌+◌, ◌*◌, ◌-◌, ◌<◌, ◌≤◌}
use native.Mathlib.Numerals.{add-one}
use native.Mathlib.Omega.{arith}
use mathlib.Core.List.{List, []}
use mathlib.Core.Bool.{Bool, cond, false, true}
use mathlib.Core.Path.{◌≡◌, refl, sym, ap, ◌∙◌}
use lib.ListN.{get_or}
use lib.Dec.{eqb}
use borrow.Author.Tests.{eq-eqb, eqb-false, eqb-true, ne_eqb, lt-ltb, le-ltb}
use Rattle.wire.specs.declared.writer.Writer.{Writer}
use Rattle.wire.specs.Writer.{State, state_of}
use Rattle.pack_rules.specs.Names.{Name}
use Rattle.pack_rules.specs.Read.{ports_in}
use Rattle.pack_rules.specs.Write.{Item}
use Rattle.pack.specs.Intern.{render}
use Rattle.pack.proofs.Interns.{render-append}
use Rattle.wire.specs.declared.answer.Number.{Number}
use Rattle.machines.specs.ResolvedIn.{end_of}
use Rattle.machines.specs.CheckedReads.{number_in}
use Rattle.machines.specs.Tables.{outputs_in}
use Rattle.machines.specs.AddedAt.{added_locals_t, adds_equations_t, adds_locals_t, each_t, equation_count_t, local_count_t, locals_in, made_of, owned_t, regions_t, small_of, total_t}
use Rattle.machines.proofs.RowLaws.{left-same}
use Rattle.machines.proofs.CheckedReadLaws.{on}

total-step : (f : ℕ → ℕ) (m i : ℕ) → total_t f (suc m) i ≡ f i + total_t f m (suc i)
unfolding total_t
total-step f m i = refl

-- a loop that sums up: one more, and the end
pub total-more : (f : ℕ → ℕ) (n i c d z : ℕ) → i < n → d ≡ f i → c + total_t f (n - i) i ≡ z → (c + d) + total_t f (n - (i + 1)) (i + 1) ≡ z
total-more f n i c d z l e h = go (n - (i + 1)) refl
  where
    go : (m : ℕ) → n - (i + 1) ≡ m → (c + d) + total_t f (n - (i + 1)) (i + 1) ≡ z
    go m g =
        let k : n - i ≡ suc m = omega arith in
        let a : total_t f (n - i) i ≡ total_t f (suc m) i = ap (λ y. total_t f y i) k in
        let b : total_t f (n - (i + 1)) (i + 1) ≡ total_t f m (suc i) = ap (λ y. total_t f y (i + 1)) g ∙ ap (total_t f m) (add-one i) in
        omega (arith, total-step f m i)

pub total-done : (f : ℕ → ℕ) (n i c z : ℕ) → n ≤ i → c + total_t f (n - i) i ≡ z → c ≡ z
unfolding total_t
total-done f n i c z l h = let k : n - i ≡ 0 = omega arith in let a : total_t f (n - i) i ≡ 0 = ap (λ y. total_t f y i) k in omega arith

pub total-start : (f : ℕ → ℕ) (n : ℕ) → 0 + total_t f (n - 0) 0 ≡ total_t f n 0
total-start f n = let k : n - 0 ≡ n = omega arith in let a : total_t f (n - 0) 0 ≡ total_t f n 0 = ap (λ y. total_t f y 0) k in omega arith

-- such a loop, past indexes that add nothing: its start, and one more
total-one : (f : ℕ → ℕ) (n i : ℕ) → 0 ≡ f i → total_t f (n - i) i ≡ total_t f (n - suc i) (suc i)
unfolding total_t
total-one f n i e = go (n - i) refl
  where
    go : (m : ℕ) → n - i ≡ m → total_t f (n - i) i ≡ total_t f (n - suc i) (suc i)
    go zero d = let g : n - suc i ≡ 0 = omega arith in rw (d, g)
    go (suc m) d = let g : n - suc i ≡ m = omega arith in rw (d, g, ← e) (omega arith)

total-skip : (f : ℕ → ℕ) (n j m i : ℕ) → i + m ≡ j → ((p : ℕ) → i ≤ p → p < j → 0 ≡ f p) → total_t f (n - i) i ≡ total_t f (n - j) j
total-skip f n j zero i e h = let d : i ≡ j = omega arith in ap (λ (y : ℕ). total_t f (n - y) y) d
total-skip f n j (suc m) i e h = total-one f n i (h i (omega arith) (omega arith)) ∙ total-skip f n j m (suc i) (omega arith) (λ p l q. h p (omega arith) q)

pub total_first : (f : ℕ → ℕ) (n j : ℕ) → 0 ≤ j → ((p : ℕ) → 0 ≤ p → p < j → 0 ≡ f p) → 0 + total_t f (n - j) j ≡ total_t f n 0
total_first f n j l h = ap (λ y. 0 + y) (sym (total-skip f n j j 0 (omega arith) h)) ∙ total-start f n

pub total-next : (f : ℕ → ℕ) (n i c d j z : ℕ) → i < n → d ≡ f i → i + 1 ≤ j → ((p : ℕ) → i + 1 ≤ p → p < j → 0 ≡ f p) → c + total_t f (n - i) i ≡ z → (c + d) + total_t f (n - j) j ≡ z
total-next f n i c d j z l e k h q = ap (λ y. (c + d) + y) (sym (total-skip f n j (j - (i + 1)) (i + 1) (omega arith) h)) ∙ total-more f n i c d z l e q

-- a sum with one more at the end
pub total-end : (f : ℕ → ℕ) (n i : ℕ) → total_t f (suc n) i ≡ total_t f n i + f (i + n)
unfolding total_t
total-end f zero i = let z : i + 0 ≡ i = omega arith in let a = ap f z in omega arith
total-end f (suc n) i =
    let z : suc i + n ≡ i + suc n = omega arith in
    ap (λ y. f i + y) (total-end f n (suc i)) ∙ ap (λ y. f i + (total_t f n (suc i) + f y)) z ∙ omega arith

-- a loop that writes items until the writer is full: one more, and the end
each_step : (old : List ℕ) (f : ℕ → List Item) (n i : ℕ) (s : State) → render old (each_t f (suc n) i) s ≡ render old (each_t f n (suc i)) (render old (f i) s)
unfolding each_t
each_step old f n i s = render-append old (f i) (each_t f n (suc i)) s

pub each_left : (old : List ℕ) (f : ℕ → List Item) (i n k : ℕ) (o m : List ℕ) (w : Writer) (s z : State) → 0 < n → state_of o m w ≡ render old (f i) s → k ≡ cond w.full 0 (n - 1) → render old (each_t f n i) s ≡ z → render old (each_t f k (i + 1)) (state_of o m w) ≡ z
each_left old f i zero k o m w s z l e g h = absurd (omega arith)
each_left old f i (suc n) k o m w s z l e g h =
    let j : suc n - 1 ≡ n = omega arith in
    left-same old (λ y. each_t f y (i + 1)) o m w n k (g ∙ ap (cond w.full 0) j)
    ∙ (λ y. render old (each_t f n (add-one i y)) (e y))
    ∙ sym (each_step old f n i s) ∙ h

pub each_more : (old : List ℕ) (f : ℕ → List Item) (i n k : ℕ) (x s z : State) → n ≡ suc k → x ≡ render old (f i) s → render old (each_t f n i) s ≡ z → render old (each_t f k (i + 1)) x ≡ z
each_more old f i n k x s z l e h =
    (λ y. render old (each_t f k (add-one i y)) (e y))
    ∙ sym (each_step old f k i s) ∙ ap (λ (y : ℕ). render old (each_t f y i) s) (sym l) ∙ h

pub each_none : (old : List ℕ) (f : ℕ → List Item) (i n : ℕ) (s z : State) → n ≤ 0 → render old (each_t f n i) s ≡ z → s ≡ z
unfolding each_t render
each_none old f i zero s z l h = h
each_none old f i (suc n) s z l h = absurd (omega arith)

-- machines that go elsewhere: one more of them, and what is written of them
pub elsewhere-more : (receivers : List ℕ) (k i p a : ℕ) → a ≡ get_or receivers p 0 → (a ≡ k → ⊥) → ((j : ℕ) → i ≤ j → j < p → get_or receivers j 0 ≡ k → ⊥)
    → (j : ℕ) → i ≤ j → j < p + 1 → get_or receivers j 0 ≡ k → ⊥
elsewhere-more receivers k i p a e h g j l m q = go (eqb j p) refl
  where
    go : (b : Bool) → eqb j p ≡ b → ⊥
    go true d = h (e ∙ ap (λ (y : ℕ). get_or receivers y 0) (sym (eqb-true j p d)) ∙ q)
    go false d = g j l (omega (arith, eqb-false j p d)) q

each-one : (f : ℕ → List Item) (c i : ℕ) → f i ≡ [] → each_t f (c - i) i ≡ each_t f (c - suc i) (suc i)
unfolding each_t
each-one f c i e = go (c - i) refl
  where
    go : (m : ℕ) → c - i ≡ m → each_t f (c - i) i ≡ each_t f (c - suc i) (suc i)
    go zero d = let g : c - suc i ≡ 0 = omega arith in rw (d, g)
    go (suc m) d = let g : c - suc i ≡ m = omega arith in rw (d, g, e)

pub each-skip : (f : ℕ → List Item) (c j m i : ℕ) → i + m ≡ j → ((p : ℕ) → i ≤ p → p < j → f p ≡ []) → each_t f (c - i) i ≡ each_t f (c - j) j
each-skip f c j zero i e h = let d : i ≡ j = omega arith in ap (λ (y : ℕ). each_t f (c - y) y) d
each-skip f c j (suc m) i e h = each-one f c i (h i (omega arith) (omega arith)) ∙ each-skip f c j m (suc i) (omega arith) (λ p l q. h p (omega arith) q)

-- a loop that writes items until the writer is full, past indexes without any: its start, one more, and the end
pub each_first : (old : List ℕ) (f : ℕ → List Item) (n j : ℕ) (s : State) → 0 ≤ j → ((p : ℕ) → 0 ≤ p → p < j → f p ≡ []) → render old (each_t f (n - j) j) s ≡ render old (each_t f n 0) s
each_first old f n j s l h = let e : n - 0 ≡ n = omega arith in ap (λ x. render old x s) (sym (each-skip f n j j 0 (omega arith) h) ∙ ap (λ (y : ℕ). each_t f y 0) e)

pub each_next : (old : List ℕ) (f : ℕ → List Item) (i c d j : ℕ) (o m : List ℕ) (w : Writer) (s z : State) → i < c → state_of o m w ≡ render old (f i) s → d ≡ cond w.full 0 c
    → i + 1 ≤ j → ((p : ℕ) → i + 1 ≤ p → p < j → f p ≡ []) → render old (each_t f (c - i) i) s ≡ z → render old (each_t f (d - j) j) (state_of o m w) ≡ z
each_next old f i c d j o m w s z l e g k h q =
    ap (λ x. render old x (state_of o m w)) (sym (each-skip f d j (j - (i + 1)) (i + 1) (omega arith) h))
    ∙ each_left old f i (c - i) (d - (i + 1)) o m w s z (omega arith) e (rest w.full g) q
  where
    rest : (b : Bool) → d ≡ cond b 0 c → d - (i + 1) ≡ cond b 0 (c - i - 1)
    rest true x = omega arith
    rest false x = omega arith

pub each_over : (old : List ℕ) (f : ℕ → List Item) (i c : ℕ) (s z : State) → c ≤ i → render old (each_t f (c - i) i) s ≡ z → s ≡ z
each_over old f i c s z l h = each_none old f i (c - i) s z (omega arith) h

-- counts
pub small_is : (k : ℕ) → k < 65536 → k ≡ small_of k
unfolding small_of
small_is k h = rw (lt-ltb k 65536 h)

pub large_is : (k : ℕ) → 65536 ≤ k → 0 ≡ small_of k
unfolding small_of
large_is k h = rw (le-ltb k 65536 h)

pub made-is : (k own a b : ℕ) → a ≡ small_of k - 1 → b ≡ small_of own → 2 + 3 * a + b ≡ made_of k own
unfolding made_of
made-is k own a b e f = rw (e, f)

pub regions-is : (regcounts : List ℕ) (i e r : ℕ) → e ≡ get_or regcounts i 0 → r ≡ small_of e → r ≡ regions_t regcounts i
unfolding regions_t
regions-is regcounts i e r a b = b ∙ ap small_of a

module _ (s defs : List ℕ) (i a : ℕ) (m o : Number) (e : a ≡ get_or defs i 0) (f : m ≡ number_in s a) (g : o ≡ number_in s m.next) where
  pub owned-not : o.value ≡ 65535 → 0 ≡ owned_t s defs i
  unfolding owned_t
  owned-not h = on m _ _ 0 (f ∙ ap (number_in s) e) (on o _ _ 0 g (rw (eq-eqb o.value 65535 h)))

  pub owned-yes : (o.value ≡ 65535 → ⊥) → 1 ≡ owned_t s defs i
  unfolding owned_t
  owned-yes h = on m _ _ 1 (f ∙ ap (number_in s) e) (on o _ _ 1 g (rw (ne_eqb o.value 65535 h)))

module _ (ns : List Name) (s : List ℕ) where
  pub locals-is : (at : ℕ) (m : Number) (o r : ℕ) → m ≡ number_in s at → o ≡ outputs_in ns s m.next → r ≡ end_of (ports_in ns s o) → r ≡ locals_in ns s at
  unfolding locals_in
  locals-is at m o r x y z = on m _ _ r x (z ∙ ap (λ k. end_of (ports_in ns s k)) y)

  pub equations-are : (at k : ℕ) (m : Number) (a : ℕ) (o : Number) (r : ℕ) → m ≡ number_in s at → a ≡ outputs_in ns s m.next → o ≡ number_in s a → r ≡ made_of k o.value → r ≡ equation_count_t ns s at k
  unfolding equation_count_t
  equations-are at k m a o r x y z w = on m _ _ r x (on o _ _ r (z ∙ ap (number_in s) y) w)

  pub locals_are : (at k a : ℕ) (l : Number) (r : ℕ) → a ≡ locals_in ns s at → l ≡ number_in s a → r ≡ made_of k l.value → r ≡ local_count_t ns s at k
  unfolding local_count_t
  locals_are at k a l r x y z = on l _ _ r (y ∙ ap (number_in s) x) z

  module _ (defs receivers regcounts : List ℕ) (k i a m r : ℕ) (ea : a ≡ get_or receivers i 0) (em : m ≡ get_or defs i 0) (er : r ≡ get_or regcounts i 0) where
    pub brings-equations : (c : ℕ) → a ≡ k → c ≡ equation_count_t ns s m r → c ≡ adds_equations_t ns s defs receivers regcounts k i
    unfolding adds_equations_t
    brings-equations c h e = rw (← ea, eq-eqb a k h, ← em, ← er) e

    pub brings-no-equations : (a ≡ k → ⊥) → 0 ≡ adds_equations_t ns s defs receivers regcounts k i
    unfolding adds_equations_t
    brings-no-equations h = rw (← ea, ne_eqb a k h)

    pub brings-locals : (c : ℕ) → a ≡ k → c ≡ local_count_t ns s m r → c ≡ adds_locals_t ns s defs receivers regcounts k i
    unfolding adds_locals_t
    brings-locals c h e = rw (← ea, eq-eqb a k h, ← em, ← er) e

    pub brings-no-locals : (a ≡ k → ⊥) → 0 ≡ adds_locals_t ns s defs receivers regcounts k i
    unfolding adds_locals_t
    brings-no-locals h = rw (← ea, ne_eqb a k h)

-- a machine that goes elsewhere brings no locals
pub no-locals : (ns : List Name) (s defs receivers regcounts offsets : List ℕ) (k i : ℕ) → (get_or receivers i 0 ≡ k → ⊥) → added_locals_t ns s defs receivers regcounts offsets k i ≡ []
unfolding added_locals_t
no-locals ns s defs receivers regcounts offsets k i h = rw (ne_eqb (get_or receivers i 0) k h)
