-- Laws of the last step: the copy into the caller's buffer, the answer by size, and the answer by what the writer reached.
use Rattle.std.proofs.Common.{◌≡◌, ℕ, zero, suc, ◌+◌, ◌-◌, ◌<◌, ◌≤◌, min, true, false, List, [], ◌∷◌, ◌++◌, length, take, drop, sym, refl, ap, ◌∙◌, ⊎_elim, append_assoc, arith, length-append, drop_of_length-le, length-take, drop-drop, le-ltb, lt-ltb}
use native.Mathlib.Nat.{sub-zero}
use lib.Seq.{take-nil, take-append_seam, drop-append-add}
use Rattle.wire.specs.declared.writer.Writer.{Writer}
use Rattle.wire.specs.Bytes.{two}
use Rattle.wire.specs.Writer.{state_of, overwritten}
use Rattle.wire.proofs.Writers.{lt-or-le, take_part}
use Rattle.pack.specs.Table.{table, texts_from}
use Rattle.pack_rules.specs.Outcome.{Outcome, answers, writes, number_of, value_of, output_of, Gives, begins, sized}
use Rattle.pack.specs.Finish.{pack_of, answered}

-- a copy after what the buffer begins with
pub begins-more : (d e p s x : List ℕ) (at : ℕ) → length p ≡ at → d ≡ begins p x → e ≡ overwritten at s d → e ≡ begins (p ++ s) x
unfolding begins overwritten
begins-more d e p s x at g h q = q ∙ rw (h, ← g, take-append_seam, drop-append-add, drop-drop, length-append) (sym (append_assoc p s _))

pub begins-none : (d : List ℕ) → d ≡ begins [] d
unfolding begins
begins-none d = refl

-- the answer by size, of a pack that is not too long
module _ (b : List ℕ) (room : ℕ) (h : length b ≤ 65536) where
  pub sized-nine : room < length b → sized room b ≡ answers 9 (length b)
  unfolding sized
  sized-nine g = rw (le-ltb 65536 (length b) h, lt-ltb room (length b) g)

  pub sized-zero : length b ≤ room → sized room b ≡ writes b
  unfolding sized
  sized-zero g = rw (le-ltb 65536 (length b) h, le-ltb room (length b) g)

-- the answer by size: k is the pack's length, or 65537 where that is less
module _ (a b c : List ℕ) (room k : ℕ) (size : k ≡ min (2 + length a + length b + length c) 65537) where
  whole_length : length (pack_of a b c) ≡ 2 + length a + length b + length c
  unfolding pack_of two
  whole_length = simp length-append (omega arith)

  pub sized-large : 65536 < k → sized room (pack_of a b c) ≡ answers 8 0
  unfolding sized
  sized-large h = rw (lt-ltb 65536 (length (pack_of a b c)) (omega (arith, whole_length)))

  pub sized-short : k ≤ 65536 → room < k → sized room (pack_of a b c) ≡ answers 9 k
  sized-short h g =
      let e : length (pack_of a b c) ≡ k = omega (arith, whole_length) in
      sized-nine (pack_of a b c) room (omega arith) (omega arith) ∙ ap (answers 9) e

  pub sized-fits : k ≤ 65536 → k ≤ room → sized room (pack_of a b c) ≡ writes (pack_of a b c)
  sized-fits h g = sized-zero (pack_of a b c) room (omega (arith, whole_length)) (omega (arith, whole_length))

  pub sized-value : k ≤ 65536 → k ≡ length (pack_of a b c)
  sized-value h = omega (arith, whole_length)

pub pack_of-is : (a b c : List ℕ) (n : ℕ) → n ≡ length (table a) + length (table b) → two n ++ (a ++ (b ++ c)) ≡ pack_of a b c
unfolding pack_of
pack_of-is a b c n e = rw e

-- an answer's three parts
pub gives-answers : (x : Outcome) (n v : ℕ) (d : List ℕ) → x ≡ answers n v → Gives x n v d d
unfolding number_of value_of output_of
gives-answers x n v d e = record { number_is = rw e; value-is = rw e; output-is = rw e }

pub gives-writes : (x : Outcome) (b : List ℕ) (v : ℕ) (d e : List ℕ) → x ≡ writes b → v ≡ length b → e ≡ begins b d → Gives x 0 v d e
unfolding number_of value_of output_of
gives-writes x b v d e p q r = record { number_is = rw p; value-is = rw p q; output-is = rw p r }

-- by what the writer reached
pub answered-full : (room : ℕ) (old out made : List ℕ) (w : Writer) → w.full ≡ true → answered room old (state_of out made w) ≡ answers 8 0
unfolding answered state_of
answered-full room old out made w e = rw e

take-drop-swap : (n m : ℕ) (t : List ℕ) → take (m - n) (drop n t) ≡ drop n (take m t)
take-drop-swap zero m t = ap (λ k. take k t) (sub-zero m)
take-drop-swap (suc n) zero [] = take-nil (zero - suc n)
take-drop-swap (suc n) zero (x ∷ t) = let z : zero - suc n ≡ 0 = omega arith in ap (λ k. take k (drop n t)) z
take-drop-swap (suc n) (suc m) [] = take-nil (suc m - suc n)
take-drop-swap (suc n) (suc m) (x ∷ t) = let z : suc m - suc n ≡ m - n = omega arith in ap (λ k. take k (drop n t)) z ∙ take-drop-swap n m t

-- the names of a table that ends at m
texts-part : (t : List ℕ) (m b : ℕ) → m ≤ length t → b ≡ min texts_from m → take (m - b) (drop b t) ≡ drop texts_from (take m t)
texts-part t m b l r = ⊎_elim
    (λ (g : m < texts_from).
    let z : b ≡ m = omega arith in
    let y : m - b ≡ 0 = omega arith in
    ap (λ k. take k (drop b t)) y ∙ sym (drop_of_length-le (take m t) {i = texts_from} (omega (arith, length-take m t))))
    (λ (g : texts_from ≤ m).
    let z : b ≡ texts_from = omega arith in
    ap (λ k. take (m - k) (drop k t)) z ∙ take-drop-swap texts_from m t)
    (lt-or-le m texts_from)

pub answered-part : (room : ℕ) (old out made : List ℕ) (w : Writer) (m n b : ℕ) → w.full ≡ false → m ≡ min w.made (length made)
    → n ≡ min w.at (length out) → b ≡ min texts_from m
    → sized room (pack_of old (take (m - b) (drop b made)) (take n out)) ≡ answered room old (state_of out made w)
unfolding answered state_of
answered-part room old out made w m n b e p q r =
    rw (e, texts-part made m b (omega arith) (omega arith), take_part made w.made m (omega arith), take_part out w.at n (omega arith))

-- the parts of an answer, carried to another name of it
pub carried : (x y : Outcome) (n v : ℕ) (d e : List ℕ) → x ≡ y → Gives x n v d e → Gives y n v d e
carried x y n v d e p g = rw p at g
