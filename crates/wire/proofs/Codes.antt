-- Laws that carry the code's answers along the definitions: one for each way in which a definition puts answers together.
use Rattle.std.proofs.Common.{Err, List, Ok, Result, [], ap, arith, get_or, ltb, ltb-true, refl, suc, sym, zero, ℕ, ◌+◌, ◌-◌, ◌<◌, ◌∙◌, ◌∷◌, ◌≡◌, ◌≤◌}
use Rattle.wire.specs.declared.answer.Stop.{Stop}
use Rattle.wire.specs.declared.answer.Stop.TheVariants.{Early, Illegal, Deep}
use Rattle.wire.specs.declared.answer.Number.{Number}
use Rattle.wire.proofs.Answers.{guard-value, u16-value}
use Rattle.wire.specs.Answer.{Answer, below, bind, byte, counted, deep, early, guard, illegal, many, map_a, u16, value}
use Rattle.wire.specs.Code.{Skipped, after, listed, next, onward, read_of, rep, skip, skips}

-- what was found, from the code's answer
pub read_found : (a : Answer ℕ) (n : Number) → Ok n ≡ read_of a → a ≡ value n.value n.next
unfolding read_of
read_found (value v q) n e = cc
read_found early n e = cc
read_found (illegal o) n e = cc
read_found (deep o) n e = cc

pub skip_found : {A : Type 0} (a : Answer A) (q : ℕ) → Ok q ≡ skip a → (x : A) × (a ≡ value x q)
unfolding skip
skip_found (value x p) q e = let g : q ≡ p = cc in (x, ap (value x) (sym g))
skip_found early q e = cc
skip_found (illegal o) q e = cc
skip_found (deep o) q e = cc

-- a number read, and then passed over
pub skip-read_ok : (a : Answer ℕ) (n : Number) → Ok n ≡ read_of a → Ok n.next ≡ skip a
unfolding skip
skip-read_ok a n h = let g = read_found a n h in rw g refl

pub skip-read_err : (a : Answer ℕ) (e : Stop) → Err e ≡ read_of a → Err e ≡ skip a
unfolding skip read_of
skip-read_err (value v q) e h = cc
skip-read_err early e h = cc
skip-read_err (illegal o) e h = cc
skip-read_err (deep o) e h = cc

pub after-read_err : (a : Answer ℕ) (k : ℕ → ℕ → Skipped) (e : Stop) → Err e ≡ read_of a → Err e ≡ after a k
unfolding after read_of
after-read_err (value v q) k e h = cc
after-read_err early k e h = cc
after-read_err (illegal o) k e h = cc
after-read_err (deep o) k e h = cc

pub skip-bind : {A B : Type 0} (a : Answer A) (k : A → ℕ → Answer B) → skip (bind a k) ≡ after a (λ x q. skip (k x q))
unfolding skip bind after
skip-bind (value x q) k = refl
skip-bind early k = refl
skip-bind (illegal o) k = refl
skip-bind (deep o) k = refl

pub after-skip : {A : Type 0} (a : Answer A) (t : ℕ → Skipped) → after a (λ x q. t q) ≡ next (skip a) t
unfolding skip after next
after-skip (value x q) t = refl
after-skip early t = refl
after-skip (illegal o) t = refl
after-skip (deep o) t = refl

pub skip-last : {A B : Type 0} (a : Answer A) (f : A → B) → skip (bind a (λ x q. value (f x) q)) ≡ skip a
unfolding skip bind
skip-last (value x q) f = refl
skip-last early f = refl
skip-last (illegal o) f = refl
skip-last (deep o) f = refl

pub skip-map : {A B : Type 0} (f : A → B) (a : Answer A) → skip (map_a f a) ≡ skip a
unfolding skip map_a
skip-map f (value x q) = refl
skip-map f early = refl
skip-map f (illegal o) = refl
skip-map f (deep o) = refl

pub after_map : {A B : Type 0} (f : A → B) (a : Answer A) (k : B → ℕ → Skipped) → after (map_a f a) k ≡ after a (λ x q. k (f x) q)
unfolding after map_a
after_map f (value x q) k = refl
after_map f early k = refl
after_map f (illegal o) k = refl
after_map f (deep o) k = refl

-- to go on from what was found is to go on from each value that may have been found
pub after_cong : {A : Type 0} (a : Answer A) (j k : A → ℕ → Skipped) → ((x : A) (q : ℕ) → a ≡ value x q → j x q ≡ k x q) → after a j ≡ after a k
unfolding after
after_cong (value x q) j k h = h x q refl
after_cong early j k h = refl
after_cong (illegal o) j k h = refl
after_cong (deep o) j k h = refl

pub next-cong : (a : Skipped) (j k : ℕ → Skipped) → ((q : ℕ) → a ≡ Ok q → j q ≡ k q) → next a j ≡ next a k
unfolding next
next-cong (Ok q) j k h = h q refl
next-cong (Err e) j k h = refl

pub next-after : {A : Type 0} (a : Answer A) (j : A → ℕ → Skipped) (k : ℕ → Skipped) → next (after a j) k ≡ after a (λ x q. next (j x q) k)
unfolding next after
next-after (value x q) j k = refl
next-after early j k = refl
next-after (illegal o) j k = refl
next-after (deep o) j k = refl

pub skip-many : {A : Type 0} (r : ℕ → Answer A) (n at : ℕ) → skip (many r n at) ≡ rep (λ p. skip (r p)) n at
unfolding many rep skip
skip-many r zero at = refl
skip-many r (suc n) at =
    skip-bind (r at) _ ∙
    after_cong (r at) _ _ (λ x p e. skip-last (many r n p) (λ xs. x ∷ xs) ∙ skip-many r n p) ∙
    after-skip (r at) (rep (λ p. skip (r p)) n)

-- one thing after another, where the second does not depend on the first's value
pub skip-seq : {A B : Type 0} (a : Answer A) (k : A → ℕ → Answer B) (t : ℕ → Skipped) → ((x : A) (q : ℕ) → skip (k x q) ≡ t q) → skip (bind a k) ≡ next (skip a) t
unfolding skip bind next
skip-seq (value x q) k t h = h x q
skip-seq early k t h = refl
skip-seq (illegal o) k t h = refl
skip-seq (deep o) k t h = refl

-- straight-line code: a production's parts, in order
unfoldable pub steps : List (ℕ → Skipped) → Skipped → Skipped
steps [] r = r
steps (f ∷ fs) r = steps fs (next r f)

pub steps-err : (fs : List (ℕ → Skipped)) (e : Stop) → Err e ≡ steps fs (Err e)
unfolding steps next
steps-err [] e = refl
steps-err (f ∷ fs) e = steps-err fs e

-- the part that is read first, then the others
pub bind-steps : {A B : Type 0} (f : ℕ → Answer A) (p : ℕ) (k : A → ℕ → Answer B) (fs : List (ℕ → Skipped)) → ((x : A) (q : ℕ) → skip (k x q) ≡ steps fs (Ok q)) → skip (bind (f p) k) ≡ steps (skips f ∷ fs) (Ok p)
unfolding steps next skips skip bind
bind-steps {A} f p k fs h = go (f p)
  where
    go : (a : Answer A) → skip (bind a k) ≡ steps fs (skip a)
    go (value x q) = h x q
    go early = steps-err fs Early
    go (illegal o) = steps-err fs (Illegal o)
    go (deep o) = steps-err fs (Deep o)

pub last_step : {A B : Type 0} (f : ℕ → Answer A) (p : ℕ) (c : A → B) → skip (map_a c (f p)) ≡ steps (skips f ∷ []) (Ok p)
unfolding steps next skips
last_step f p c = skip-map c (f p)

pub from-steps : {A : Type 0} (h : ℕ → Answer A) (fs : List (ℕ → Skipped)) → ((p : ℕ) → skip (h p) ≡ steps fs (Ok p)) → (r : Skipped) → onward h r ≡ steps fs r
unfolding onward next skips
from-steps h fs e (Ok p) = e p
from-steps h fs e (Err o) = steps-err fs o

-- a list after its count
pub listed-counted : {A : Type 0} (f : ℕ → Answer A) (s : List ℕ) (at : ℕ) → listed s (skips f) at ≡ skip (counted f s at)
unfolding listed counted skips
listed-counted f s at = sym (skip-bind (u16 s at) _ ∙ after_cong (u16 s at) _ _ (λ n p e. skip-many f n p))

-- the loop over a list: i of m elements are passed over, and then one more
pub rep-ok : (k : ℕ → Skipped) (m i p q : ℕ) (z : Skipped) → i < m → Ok q ≡ k p → rep k (m - i) p ≡ z → rep k (m - (i + 1)) q ≡ z
unfolding rep next
rep-ok k m i p q z l e h = let g : m - i ≡ suc (m - (i + 1)) = omega arith in sym (ap (λ (n : ℕ). rep k n p) g ∙ ap (λ (r : Skipped). next r (rep k (m - (i + 1)))) (sym e)) ∙ h

pub rep-err : (k : ℕ → Skipped) (m i p : ℕ) (e : Stop) (z : Skipped) → i < m → Err e ≡ k p → rep k (m - i) p ≡ z → Err e ≡ z
unfolding rep next
rep-err k m i p e z l d h = let g : m - i ≡ suc (m - (i + 1)) = omega arith in sym (ap (λ (n : ℕ). rep k n p) g ∙ ap (λ (r : Skipped). next r (rep k (m - (i + 1)))) (sym d)) ∙ h

pub rep-done : (k : ℕ → Skipped) (m i p : ℕ) (z : Skipped) → m ≤ i → rep k (m - i) p ≡ z → Ok p ≡ z
unfolding rep
rep-done k m i p z l h = let g : m - i ≡ 0 = omega arith in sym (ap (λ (n : ℕ). rep k n p) g) ∙ h

-- a list whose count was read
pub listed-ok : (s : List ℕ) (k : ℕ → Skipped) (at : ℕ) (n : Number) (z : Skipped) → Ok n ≡ read_of (u16 s at) → z ≡ rep k n.value n.next → z ≡ listed s k at
unfolding listed after
listed-ok s k at n z e h = let g = read_found (u16 s at) n e in rw g h

pub listed-err : (s : List ℕ) (k : ℕ → Skipped) (at : ℕ) (e : Stop) → Err e ≡ read_of (u16 s at) → Err e ≡ listed s k at
unfolding listed
listed-err s k at e h = after-read_err (u16 s at) (rep k) e h

-- how many elements a list has is a number of two bytes
pub u16-small : (s : List ℕ) (at : ℕ) (n : Number) → ((i : ℕ) → get_or s i 0 < 256) → Ok n ≡ read_of (u16 s at) → n.value < 65536
u16-small s at n b e = let p = u16-value s at n.value n.next (read_found (u16 s at) n e) in omega (arith, b at, b (at + 1))

pub below-small : (m : ℕ) (s : List ℕ) (at : ℕ) (n : Number) → Ok n ≡ read_of (below m s at) → n.value < m
unfolding below
below-small m s at n e = ltb-true n.value m (guard-value (λ i. ltb i m) at _ n.value n.next (read_found (guard (λ i. ltb i m) at (byte s at)) n e)).1

-- a loop over a list begins with all of it to come
pub rep-start : (k : ℕ → Skipped) (m p : ℕ) → rep k (m - 0) p ≡ rep k m p
rep-start k m p = ap (λ (n : ℕ). rep k n p) (omega arith)

-- what a `?` hands back
pub handed-back : {T E : Type 0} (r : Result T E) (e : E) → (x : E) × (r ≡ Err x) × (x ≡ e) → r ≡ Err e
handed-back r e h = h.1 ∙ ap Err h.2

-- what stands after a number that was read
pub skip-ok : {B : Type 0} (a : Answer ℕ) (k : ℕ → ℕ → Answer B) (n : Number) (z : Skipped) → Ok n ≡ read_of a → z ≡ skip (k n.value n.next) → z ≡ skip (bind a k)
unfolding bind
skip-ok a k n z h d = let g = read_found a n h in rw g d
