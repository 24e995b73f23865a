-- Laws of the writer's state: the steps of the code, and what bytes do that fit and that do not.
use Prim.Native.Nat.{ℕ, zero, suc, ◌+◌, ◌-◌, ◌<◌, ◌≤◌, ◌/◌, ◌%◌, min, zero-le}
use native.Mathlib.Nat.{le_of_lt, zero-add, add-zero}
use native.Mathlib.Numerals.{add-one}
use native.Mathlib.Omega.{arith}
use mathlib.Core.Logic.{⊎_elim, ◌⊎◌, inl, inr}
use mathlib.Core.Bool.{Bool, true, false, cond}
use mathlib.Core.Path.{◌≡◌, refl, sym, ap, ◌∙◌}
use mathlib.Core.List.{List, [], ◌∷◌, ◌++◌, append-nil, append_assoc}
use lib.ListN.{length, take, drop, set, get_or, length-set, drop_of_length-le, length-drop, length-append}
use lib.Seq.{take-suc-set, length-take-le, take_all, drop-length, drop-drop, take-length, append_snoc, paste, paste-suc, take-append_seam}
use lib.Dec.{ltb, leb}
use borrow.Author.Tests.{lt-ltb, le-ltb, le-leb, lt-leb, ltb-true, ltb-false}
use Rattle.wire.specs.declared.writer.Writer.{Writer}
use Rattle.wire.specs.Bytes.{two}
use Rattle.wire.specs.Decimal.{digits, decimal}
use Rattle.wire.specs.Writer.{State, full, st, state_of, put, puts, swapped, overwritten}

pub lt-or-le : (a b : ℕ) → (a < b) ⊎ (b ≤ a)
lt-or-le a b = go (ltb a b) refl
  where
    go : (t : Bool) → ltb a b ≡ t → (a < b) ⊎ (b ≤ a)
    go true e = inl (ltb-true a b e)
    go false e = inr (ltb-false a b e)

-- a full writer stays full
pub put_full : (out m : List ℕ) (w : Writer) (b : ℕ) → w.full ≡ true → state_of out m w ≡ put b (state_of out m w)
unfolding state_of put
put_full out m w b e = rw e

-- a store at the writer's place is one byte more
pub put-more : (out m : List ℕ) (w : Writer) (b : ℕ) → w.full ≡ false → w.at < length out
    → state_of (set out w.at b) m (record { at = w.at + 1; made = w.made; full = w.full }) ≡ put b (state_of out m w)
unfolding state_of put
put-more out m w b e h =
    simp (e, length-set, add-one, take-suc-set out w.at b h, length-take-le w.at out (le_of_lt h), lt-ltb _ _ h)

-- where there is no room the writer is full
pub put-none : (out m : List ℕ) (w : Writer) (b : ℕ) → w.full ≡ false → length out ≤ w.at
    → state_of out m (record { at = w.at; made = w.made; full = true }) ≡ put b (state_of out m w)
unfolding state_of put
put-none out m w b e h = simp (e, take_all w.at out h, le-ltb (length out) (length out) (omega arith))

-- the two bytes of a number
pub puts-two : (k : ℕ) (s : State) → put (k / 256 % 256) (put (k % 256) s) ≡ puts (two k) s
unfolding puts two
puts-two k s = refl

pub puts-full : (xs : List ℕ) → puts xs full ≡ full
unfolding puts put
puts-full [] = refl
puts-full (x ∷ xs) = puts-full xs

-- bytes one list after the other
pub puts-append : (xs ys : List ℕ) (s : State) → puts (xs ++ ys) s ≡ puts ys (puts xs s)
unfolding puts
puts-append [] ys s = refl
puts-append (x ∷ xs) ys s = puts-append xs ys (put x s)

pub puts-snoc : (xs : List ℕ) (b : ℕ) (s : State) → puts (xs ++ (b ∷ [])) s ≡ put b (puts xs s)
unfolding puts
puts-snoc [] b s = refl
puts-snoc (x ∷ xs) b s = puts-snoc xs b (put x s)

-- bytes that fit are appended, and what does not fit fills the writer
pub puts-fit : (co cm : ℕ) (md xs bs : List ℕ) → length bs ≤ co
    → puts xs (st co cm bs md) ≡ cond (leb (length bs + length xs) co) (st co cm (bs ++ xs) md) full
unfolding puts put
puts-fit co cm md [] bs h = rw (add-zero, le-leb _ _ h, append-nil)
puts-fit co cm md (x ∷ xs) bs h = ⊎_elim
    (λ (g : length bs < co).
    let l : length (bs ++ (x ∷ [])) + length xs ≡ length bs + suc (length xs) = omega (arith, length-append bs (x ∷ [])) in
    let r : puts xs (st co cm (bs ++ (x ∷ [])) md) ≡ cond (leb (length (bs ++ (x ∷ [])) + length xs) co) (st co cm (bs ++ (x ∷ []) ++ xs) md) full =
    puts-fit co cm md xs (bs ++ (x ∷ [])) (omega (arith, length-append bs (x ∷ []))) in
    rw (lt-ltb _ _ g, ← l, ← append_snoc bs x xs) r)
    (λ (g : co ≤ length bs). rw (le-ltb _ _ g, lt-leb (length bs + suc (length xs)) co (omega arith)) (puts-full xs))
    (lt-or-le (length bs) co)

-- a text written to an empty buffer of its own: too long where the writer is full, and else what stands there
module _ (buf xs : List ℕ) (v : Writer) (e : state_of buf [] v ≡ puts xs (st (length buf) 0 [] [])) where
  text-fit : state_of buf [] v ≡ cond (leb (length xs) (length buf)) (st (length buf) 0 xs []) full
  text-fit = e ∙ puts-fit (length buf) 0 [] xs [] zero-le ∙ rw zero-add

  pub text-over : v.full ≡ true → length buf < length xs
  unfolding state_of
  text-over f = ⊎_elim
      (λ (o : length buf < length xs). o)
      (λ (o : length xs ≤ length buf).
      let g : full ≡ st (length buf) 0 xs [] = rw (f, le-leb _ _ o) at text-fit in
      absurd (let z : ◌≡◌ {A = ℕ} 0 1 = cc in omega arith))
      (lt-or-le (length buf) (length xs))

  pub text-is : v.full ≡ false → (take v.at buf ≡ xs) × (length xs ≤ length buf)
  unfolding state_of
  text-is f = ⊎_elim
      (λ (o : length buf < length xs).
      let g : st (length buf) 0 (take v.at buf) (take v.made []) ≡ full = rw (f, lt-leb _ _ o) at text-fit in
      absurd (let z : ◌≡◌ {A = ℕ} 0 1 = cc in omega arith))
      (λ (o : length xs ≤ length buf).
      let g : st (length buf) 0 (take v.at buf) (take v.made []) ≡ st (length buf) 0 xs [] = rw (f, le-leb _ _ o) at text-fit in
      (cc, o))
      (lt-or-le (length buf) (length xs))

-- one byte more of a copy
pub paste-turn : (d s e : List ℕ) (at j o : ℕ) → o ≡ at + j → e ≡ paste d at s j → at + j < length d → j < length s
    → set e o (get_or s j 0) ≡ paste d at s (j + 1)
paste-turn d s e at j o p q h g = rw (p, q, add-one) (paste-suc d at s j 0 h g)

-- a whole copy
pub paste-whole : (d s e : List ℕ) (at j : ℕ) → j ≡ length s → e ≡ paste d at s j → e ≡ overwritten at s d
unfolding overwritten
paste-whole d s e at j p q = q ∙ rw (p, take-length) (append_assoc (take at d) s (drop (at + length s) d))

-- A COPY AT ONCE

-- a buffer's front up to a place that may lie past its end
take_min : (a : ℕ) (o : List ℕ) → take a o ≡ take (min a (length o)) o
take_min a o = ⊎_elim
    (λ (g : length o < a). let e : min a (length o) ≡ length o = omega arith in rw (e, take-length, take_all a o (omega arith)))
    (λ (g : a ≤ length o). let e : min a (length o) ≡ a = omega arith in rw e)
    (lt-or-le (length o) a)

pub bytes-full : (o m xs : List ℕ) (w : Writer) → w.full ≡ true → state_of o m w ≡ puts xs (state_of o m w)
unfolding state_of
bytes-full o m xs w e = rw e (sym (puts-full xs))

-- where there is no room for all of them the writer is full
pub bytes-over : (o m xs : List ℕ) (w : Writer) (a : ℕ) → w.full ≡ false → a ≡ min w.at (length o) → length o - a < length xs → full ≡ puts xs (state_of o m w)
unfolding state_of
bytes-over o m xs w a f e h =
    let t : take w.at o ≡ take a o = take_min w.at o ∙ ap (λ i. take i o) (sym e) in
    let l : length (take a o) ≡ a = length-take-le a o (omega arith) in
    rw (f, t, puts-fit (length o) (length m) (take w.made m) xs (take a o) (omega arith), lt-leb (length (take a o) + length xs) (length o) (omega arith))

-- and else they stand there
pub bytes-copied : (o k m xs : List ℕ) (w : Writer) (a e : ℕ) → w.full ≡ false → a ≡ min w.at (length o) → length xs ≤ length o - a → e ≡ a + length xs
    → k ≡ overwritten a xs o → state_of k m (record { at = e; made = w.made; full = w.full }) ≡ puts xs (state_of o m w)
unfolding state_of overwritten
bytes-copied o k m xs w a e f g h p q =
    let u : take w.at o ≡ take a o = take_min w.at o ∙ ap (λ i. take i o) (sym g) in
    let l : length (take a o) ≡ a = length-take-le a o (omega arith) in
    let n : length (take a o ++ xs) ≡ e = omega (arith, length-append (take a o) xs) in
    let j : k ≡ (take a o ++ xs) ++ drop (a + length xs) o = q ∙ sym (append_assoc (take a o) xs _) in
    let z : length k ≡ length o = ap length j ∙ simp (length-append, length-drop) (omega (arith, n)) in
    let t : take e k ≡ take a o ++ xs = ap (take e) j ∙ ap (λ i. take i ((take a o ++ xs) ++ drop (a + length xs) o)) (sym n) ∙ take-append_seam (take a o ++ xs) _ in
    rw (z, t, f, u, puts-fit (length o) (length m) (take w.made m) xs (take a o) (omega arith), le-leb (length (take a o) + length xs) (length o) (omega arith))

-- the exchange of the two places
pub turned-is : (o m : List ℕ) (w : Writer) → state_of m o (record { at = w.made; made = w.at; full = w.full }) ≡ swapped (state_of o m w)
unfolding state_of swapped
turned-is o m w = go w.full
  where
    go : (t : Bool) → cond t full (st (length m) (length o) (take w.made m) (take w.at o))
        ≡ swapped (cond t full (st (length o) (length m) (take w.at o) (take w.made m)))
    go true = refl
    go false = refl

-- a part that is cut at the end of the bytes
pub take-capped : (t : List ℕ) (b l : ℕ) → b ≤ length t → take (min (b + l) (length t) - b) (drop b t) ≡ take l (drop b t)
take-capped t b l h = ⊎_elim less more (lt-or-le (length t - b) l)
  where
    less : length t - b < l → take (min (b + l) (length t) - b) (drop b t) ≡ take l (drop b t)
    less g =
        let e : min (b + l) (length t) - b ≡ length t - b = omega arith in
        rw (e, take_all (length t - b) (drop b t) (rw length-drop (omega arith)), take_all l (drop b t) (rw length-drop (omega arith)))

    more : l ≤ length t - b → take (min (b + l) (length t) - b) (drop b t) ≡ take l (drop b t)
    more g =
        let e : min (b + l) (length t) - b ≡ l = omega arith in
        rw e

pub drop-capped : (t : List ℕ) (b l : ℕ) → b ≤ length t → drop (min (b + l) (length t)) t ≡ drop l (drop b t)
drop-capped t b l h = ⊎_elim less more (lt-or-le (length t - b) l)
  where
    less : length t - b < l → drop (min (b + l) (length t)) t ≡ drop l (drop b t)
    less g =
        let e : min (b + l) (length t) ≡ length t = omega arith in
        rw (e, drop-length, drop_of_length-le (drop b t) {i = l} (rw length-drop (omega arith)))

    more : l ≤ length t - b → drop (min (b + l) (length t)) t ≡ drop l (drop b t)
    more g =
        let e : min (b + l) (length t) ≡ b + l = omega arith in
        rw (e, drop-drop)

-- what a writer has used of a buffer, as a part of it
pub take_part : (m : List ℕ) (k e : ℕ) → e ≡ min k (length m) → take e m ≡ take k m
take_part m k e p = ⊎_elim
    (λ (g : length m < k). let i : e ≡ length m = omega arith in rw (i, take-length, take_all k m (omega arith)))
    (λ (g : k ≤ length m). let i : e ≡ k = omega arith in rw i)
    (lt-or-le (length m) k)

-- a step of the digits, by whether the number is below ten
abbrev chosen : ℕ → Bool → List ℕ → List ℕ
chosen n t l = elim t [ true ↦ (48 + n) ∷ [] | false ↦ l ++ ((48 + n % 10) ∷ []) ]

chosen-same : (n : ℕ) (l k : List ℕ) → (10 ≤ n → l ≡ k) → chosen n (ltb n 10) l ≡ chosen n (ltb n 10) k
chosen-same n l k h = go (ltb n 10) refl
  where
    go : (t : Bool) → ltb n 10 ≡ t → chosen n t l ≡ chosen n t k
    go true e = refl
    go false e = ap (λ (x : List ℕ). x ++ ((48 + n % 10) ∷ [])) (h (ltb-false n 10 e))

-- more fuel than is needed changes nothing
digits-enough : (f g n : ℕ) → n < f → n < g → digits f n ≡ digits g n
unfolding digits
digits-enough zero g n p q = absurd (omega arith)
digits-enough (suc f) zero n p q = absurd (omega arith)
digits-enough (suc f) (suc g) n p q =
    chosen-same n (digits f (n / 10)) (digits g (n / 10)) (λ h. digits-enough f g (n / 10) (omega arith) (omega arith))

-- the digits of a number below ten, and of another
pub decimal-one : (n : ℕ) (s : State) → n < 10 → put (48 + n % 10) s ≡ puts (decimal n) s
unfolding decimal digits puts
decimal-one n s h =
    let e : n % 10 ≡ n = omega arith in
    ap (λ (k : ℕ). put (48 + k) s) e ∙ sym (ap (λ (t : Bool). puts (chosen n t (digits n (n / 10))) s) (lt-ltb n 10 h))

pub decimal-more : (n : ℕ) (s : State) → 10 ≤ n → put (48 + n % 10) (puts (decimal (n / 10)) s) ≡ puts (decimal n) s
unfolding decimal digits
decimal-more n s h =
    let d : digits n (n / 10) ≡ digits (suc (n / 10)) (n / 10) = digits-enough n (suc (n / 10)) (n / 10) (omega arith) (omega arith) in
    sym (ap (λ (t : Bool). puts (chosen n t (digits n (n / 10))) s) (le-ltb n 10 h)
    ∙ puts-snoc (digits n (n / 10)) (48 + n % 10) s ∙ ap (λ (l : List ℕ). put (48 + n % 10) (puts l s)) d)
