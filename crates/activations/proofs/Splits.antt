-- A list by one of its members: what comes before it, and what after.
use Prim.Native.Nat.{ℕ, zero, suc, ◌<◌}
use native.Mathlib.Omega.{arith}
use mathlib.Core.List.{List, [], ◌∷◌, ◌++◌}
use mathlib.Core.Path.{◌≡◌, refl, sym, ap, ◌∙◌}
use lib.ListN.{length, take, drop, length-append}
use lib.Seq.{drop-append_seam, take-append_seam}

-- the member of index i
pub record Among {A : Type 0} (xs : List A) (i : ℕ) : Type 0 where
  pub it : A
  pub rest : List A
  pub split : xs ≡ take i xs ++ (it ∷ rest)
  pub count : length (take i xs) ≡ i
  pub more : take (suc i) xs ≡ take i xs ++ (it ∷ [])
  pub left : drop i xs ≡ it ∷ drop (suc i) xs

pub among : {A : Type 0} (xs : List A) (i : ℕ) → i < length xs → Among xs i
among [] i l = absurd (omega arith)
among (x ∷ xs) zero l = record { it = x; rest = xs; split = refl; count = refl; more = refl; left = refl }
among (x ∷ xs) (suc i) l =
    let m = among xs i (omega arith) in
    record { it = m.it; rest = m.rest; split = ap (λ ys. x ∷ ys) m.split; count = ap suc m.count; more = ap (λ ys. x ∷ ys) m.more; left = m.left }

-- what comes before a member is known by its length, and so is the member
unfoldable pub first : {A : Type 0} → A → List A → A
first d [] = d
first d (x ∷ xs) = x

module _ {A : Type 0} (xs before : List A) (x : A) (post : List A) (e : xs ≡ before ++ (x ∷ post)) where
  pub before-is : (i : ℕ) → length before ≡ i → take i xs ≡ before
  before-is i l = ap (λ j. take j xs) (sym l) ∙ ap (take (length before)) e ∙ take-append_seam before (x ∷ post)

  pub member_is : (i : ℕ) → length before ≡ i → (m : Among xs i) → m.it ≡ x
  unfolding first
  member_is i l m = ap (first x) (sym m.left ∙ ap (λ j. drop j xs) (sym l) ∙ ap (drop (length before)) e ∙ drop-append_seam before (x ∷ post))

  pub before-less : length before < length xs
  before-less = let a = ap length e in let b = length-append before (x ∷ post) in omega arith
