-- Laws for tables of 16-bit words.
use Prim.Native.Nat.{ℕ, zero, suc, ◌+◌, ◌-◌, ◌<◌, ◌≤◌, min}
use native.Mathlib.Nat.{zero-add}
use native.Mathlib.Omega.{arith}
use mathlib.Core.List.{List}
use mathlib.Core.Logic.{⊎_elim}
use mathlib.Core.Path.{◌≡◌, refl, sym, ap, ◌∙◌}
use lib.ListN.{length, get_or, set, get_or-eq_default, take, drop, replicate, length-append, length-drop}
use lib.Seq.{get_or-set_other, paste}
use Rattle.std.proofs.lemmas.List.{same_lists, places, get_or_default, length-replicate}
use mathlib.Core.List.{◌++◌}
use Rattle.wire.proofs.Writers.{lt-or-le}
use Rattle.machines.specs.OwnersAt.{fill_t}
use Rattle.machines.proofs.TablesFilled.{fill-at, fill-length}
use Rattle.activations.specs.Cells.{clear_t, copy_t}

-- what is filled, cell by cell
module _ (f : ℕ → ℕ) where
  fill-after : (n i : ℕ) (t : List ℕ) (j : ℕ) → i + n ≤ j → get_or (fill_t f n i t) j 0 ≡ get_or t j 0
  unfolding fill_t
  fill-after zero i t j h = refl
  fill-after (suc n) i t j h = fill-after n (suc i) (set t i (f i)) j (omega arith) ∙ get_or-set_other t i j (f i) 0 (λ e. omega arith)

  filled_is : (n : ℕ) (t u : List ℕ) → length u ≡ length t → ((j : ℕ) → j < length t → j < n → get_or u j 0 ≡ f j) → ((j : ℕ) → n ≤ j → get_or u j 0 ≡ get_or t j 0) → u ≡ fill_t f n 0 t
  filled_is n t u e g h =
      same_lists u (fill_t f n 0 t) (e ∙ sym (fill-length f n 0 t)) (λ k d l.
      let m : k < length (fill_t f n 0 t) = omega (arith, fill-length f n 0 t) in
      get_or_default u k d 0 l
      ∙ ⊎_elim
      (λ (b : k < n). g k (omega arith) b ∙ sym (fill-at f n 0 t k (omega arith) (omega arith) (omega arith)))
      (λ b. h k b ∙ sym (fill-after n 0 t k (omega arith)))
      (lt-or-le k n)
      ∙ get_or_default (fill_t f n 0 t) k 0 d m)

pub cleared : (n e : ℕ) (t z : List ℕ) → e ≡ min n (length t) → z ≡ replicate e 0 → z ++ drop e t ≡ clear_t n t
unfolding clear_t
cleared n e t z m c = filled_is (λ i. 0) n t (z ++ drop e t)
    (rw c (omega (arith, length-append (replicate e 0) (drop e t), length-drop e t, length-replicate {A = ℕ})))
    (λ j l b. rw c (grind (arith, places)))
    (λ j b. rw c (grind (arith, places)))

-- where the other table ends the rest is zero
pub copied : (from to z y : List ℕ) (n e k : ℕ) → e ≡ min n (length to) → k ≡ min e (length from) → y ≡ take k from → z ≡ replicate (e - k) 0
    → take k (y ++ drop k to) ++ (z ++ drop (e - k) (drop k (y ++ drop k to))) ≡ copy_t from n to
unfolding copy_t
copied from to z y n e k m l c d =
    let h : k ≤ length to = omega (arith, m, l) in
    filled_is (λ i. get_or from i 0) n to (take k (y ++ drop k to) ++ (z ++ drop (e - k) (drop k (y ++ drop k to))))
    (rw (c, d) (grind (arith, places)))
    (λ j b u. rw (c, d) (⊎_elim (λ (g : j < k). grind (arith, places)) (λ (g : k ≤ j). let o : get_or from j 0 ≡ 0 = get_or-eq_default from 0 (omega arith) in rw o (grind (arith, places))) (lt-or-le j k)))
    (λ j u. rw (c, d) (grind (arith, places)))

-- the same by a loop that copies k cells
pub copied-over : (from to u z : List ℕ) (n e k i : ℕ) → e ≡ min n (length to) → k ≡ min e (length from) → i ≤ k → k ≤ i → u ≡ paste to 0 from i → z ≡ replicate (e - k) 0
    → take k u ++ (z ++ drop (e - k) (drop k u)) ≡ copy_t from n to
copied-over from to u z n e k i m l p q r d =
    let x : i ≡ k = omega arith in
    let v : u ≡ take k from ++ drop k to = r ∙ ap (λ j. paste to 0 from j) x ∙ ap (λ j. take k from ++ drop j to) (zero-add k) in
    rw v (copied from to z (take k from) n e k m l refl d)
