-- Laws of bytes that are put over what a buffer held, one run after the other.
use Prim.Native.Nat.{ℕ, ◌+◌, ◌≤◌}
use native.Mathlib.Nat.{add-zero, zero-add}
use native.Mathlib.Omega.{arith}
use mathlib.Core.List.{List, [], ◌++◌, append_assoc}
use mathlib.Core.Path.{◌≡◌, sym, subst, ap, ◌∙◌}
use lib.ListN.{length, take, drop, length-append, take-append-drop}
use lib.Seq.{length-take-le, take-append_seam, drop-append-add, drop-drop}
use Rattle.wire.specs.Writer.{overwritten}
use Rattle.pack_rules.specs.Outcome.{begins}

-- at the start
pub over-start : (xs d : List ℕ) → overwritten 0 xs d ≡ begins xs d
unfolding overwritten begins
over-start xs d = rw zero-add

-- nothing is put
pub over_none : (d : List ℕ) (at : ℕ) → overwritten at [] d ≡ d
unfolding overwritten
over_none d at = rw add-zero (take-append-drop at d)

-- the same bytes, otherwise written: where they fit, what the buffer holds, and where they end
pub room_as : (xs ys : List ℕ) (at n : ℕ) → at + length xs ≤ n → xs ≡ ys → at + length ys ≤ n
room_as xs ys at n h q = subst (λ (r : List ℕ). at + length r ≤ n) q h

pub over-as : (d e xs ys : List ℕ) (at : ℕ) → e ≡ overwritten at ys d → xs ≡ ys → e ≡ overwritten at xs d
over-as d e xs ys at p q = p ∙ ap (λ (r : List ℕ). overwritten at r d) (sym q)

pub put_as : (d e xs ys : List ℕ) (at r : ℕ) → (r ≡ at + length ys) × (e ≡ overwritten at ys d) → xs ≡ ys → (r ≡ at + length xs) × (e ≡ overwritten at xs d)
put_as d e xs ys at r h q = (h.0 ∙ ap (λ (l : List ℕ). at + length l) (sym q), over-as d e xs ys at h.1 q)

pub put-none : (d xs : List ℕ) (at : ℕ) → xs ≡ [] → (at ≡ at + length xs) × (d ≡ overwritten at xs d)
put-none d xs at q = put_as d d xs [] at at (sym (add-zero at), sym (over_none d at)) q

-- a run after a front that is n long
after_front : (p ys d : List ℕ) (n : ℕ) → length p ≡ n → overwritten n ys (p ++ drop n d) ≡ p ++ (ys ++ drop (n + length ys) d)
unfolding overwritten
after_front p ys d n e = rw (← e, take-append_seam, drop-append-add, drop-drop)

front_length : (xs d : List ℕ) (at : ℕ) → at ≤ length d → length (take at d ++ xs) ≡ at + length xs
front_length xs d at h = length-append (take at d) xs ∙ ap (λ (n : ℕ). n + length xs) (length-take-le at d h)

over-front : (xs d : List ℕ) (at : ℕ) → overwritten at xs d ≡ (take at d ++ xs) ++ drop (at + length xs) d
unfolding overwritten
over-front xs d at = sym (append_assoc (take at d) xs (drop (at + length xs) d))

joined : (xs ys d : List ℕ) (at : ℕ) → (take at d ++ xs) ++ (ys ++ drop (at + length xs + length ys) d) ≡ overwritten at (xs ++ ys) d
unfolding overwritten
joined xs ys d at =
    let k : at + length xs + length ys ≡ at + length (xs ++ ys) = omega (arith, length-append xs ys) in
    append_assoc (take at d) xs _ ∙ ap (λ (r : List ℕ). take at d ++ r) (sym (append_assoc xs ys _) ∙ ap (λ (n : ℕ). (xs ++ ys) ++ drop n d) k)

-- one run and the next are one
pub over-more : (xs ys d : List ℕ) (at : ℕ) → at ≤ length d → overwritten (at + length xs) ys (overwritten at xs d) ≡ overwritten at (xs ++ ys) d
over-more xs ys d at h =
    ap (overwritten (at + length xs) ys) (over-front xs d at) ∙ after_front (take at d ++ xs) ys d (at + length xs) (front_length xs d at h) ∙ joined xs ys d at

-- the same as a step of the code: b is where the first ended
pub over-then : (d e f xs ys : List ℕ) (at b : ℕ) → at ≤ length d → b ≡ at + length xs → e ≡ overwritten at xs d → f ≡ overwritten b ys e
    → f ≡ overwritten at (xs ++ ys) d
over-then d e f xs ys at b h p q r = r ∙ (λ i. overwritten (p i) ys (q i)) ∙ over-more xs ys d at h
