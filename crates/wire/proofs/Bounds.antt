-- No answer holds an offset past the end: of what goes on, or of what is refused.
use Prim.Native.Nat.{ℕ, ◌+◌, ◌≤◌, ◌<◌, zero, suc}
use native.Mathlib.Omega.{arith}
use mathlib.Core.List.{List, [], ◌∷◌}
use mathlib.Core.Bool.{Bool, true, false, cond}
use mathlib.Core.Path.{◌≡◌, refl}
use lib.ListN.{length, get_or}
use lib.Dec.{ltb}
use borrow.Author.Tests.{ltb-true}
use Rattle.wire.specs.Answer.{Answer, below, bind, byte, counted, deep, early, guard, illegal, index, many, map_a, u16, u32, u64, value}
use Rattle.wire.specs.Preorder.{Trees, nil, trees}

-- the offset in an answer
unfoldable pub offset_in : {A : Type 0} → Answer A → ℕ
offset_in (value x q) = q
offset_in early = 0
offset_in (illegal o) = o
offset_in (deep o) = o

module _ (n : ℕ) where
  -- what starts inside stays inside
  abbrev pub Within : {A : Type 0} → (ℕ → Answer A) → Type 0
  Within r = (p : ℕ) → p ≤ n → offset_in (r p) ≤ n

  pub within-value : {A : Type 0} (x : A) → Within (λ p. value x p)
  unfolding offset_in
  within-value x p h = h

  pub within-early : (A : Type 0) → offset_in {A = A} early ≤ n
  unfolding offset_in
  within-early A = omega arith

  pub within-bind : {A B : Type 0} (a : Answer A) (k : A → ℕ → Answer B) → offset_in a ≤ n → ((x : A) → Within (k x)) → offset_in (bind a k) ≤ n
  unfolding offset_in bind
  within-bind (value x q) k h f = f x q h
  within-bind early k h f = h
  within-bind (illegal o) k h f = h
  within-bind (deep o) k h f = h

  pub within-map : {A B : Type 0} (f : A → B) (a : Answer A) → offset_in a ≤ n → offset_in (map_a f a) ≤ n
  unfolding offset_in map_a
  within-map f (value x q) h = h
  within-map f early h = h
  within-map f (illegal o) h = h
  within-map f (deep o) h = h

  pub within-guard : {A : Type 0} (t : A → Bool) (at : ℕ) (a : Answer A) → at ≤ n → offset_in a ≤ n → offset_in (guard t at a) ≤ n
  unfolding offset_in guard
  within-guard {A} t at (value x q) l h = go (t x)
    where
      go : (b : Bool) → offset_in {A = A} (cond b (value x q) (illegal at)) ≤ n
      go true = h
      go false = l
  within-guard t at early l h = h
  within-guard t at (illegal o) l h = h
  within-guard t at (deep o) l h = h

  pub within-cond : {A : Type 0} (b : Bool) (x y : Answer A) → offset_in x ≤ n → offset_in y ≤ n → offset_in (cond b x y) ≤ n
  within-cond true x y h k = h
  within-cond false x y h k = k

  pub within-many : {A : Type 0} (r : ℕ → Answer A) → Within r → (k : ℕ) → Within (many r k)
  unfolding many
  within-many r f zero p h = within-value [] p h
  within-many r f (suc k) p h = within-bind (r p) _ (f p h) (λ x q l. within-bind (many r k q) _ (within-many r f k q l) (λ xs. within-value (x ∷ xs)))

module _ (s : List ℕ) where
  pub within-byte : (p : ℕ) → offset_in (byte s p) ≤ length s
  unfolding byte offset_in
  within-byte p = go (ltb p (length s)) refl
    where
      go : (b : Bool) → ltb p (length s) ≡ b → offset_in (cond b (value (get_or s p 0) (p + 1)) early) ≤ length s
      go true e = let l : p < length s = ltb-true p (length s) e in omega arith
      go false e = omega arith

  pub within-u16 : (p : ℕ) → offset_in (u16 s p) ≤ length s
  unfolding u16
  within-u16 p = within-bind (length s) (byte s p) _ (within-byte p) (λ a q h. within-bind (length s) (byte s q) _ (within-byte q) (λ b. within-value (length s) _))

  pub within-u32 : (p : ℕ) → offset_in (u32 s p) ≤ length s
  unfolding u32
  within-u32 p = within-bind (length s) (u16 s p) _ (within-u16 p) (λ a q h. within-bind (length s) (u16 s q) _ (within-u16 q) (λ b. within-value (length s) _))

  pub within-u64 : (p : ℕ) → offset_in (u64 s p) ≤ length s
  unfolding u64
  within-u64 p = within-bind (length s) (u32 s p) _ (within-u32 p) (λ a q h. within-bind (length s) (u32 s q) _ (within-u32 q) (λ b. within-value (length s) _))

  pub within-index : (k : ℕ) → Within (length s) (index k s)
  unfolding index
  within-index k p h = within-guard (length s) _ p (u16 s p) h (within-u16 p)

  pub within-below : (k : ℕ) → Within (length s) (below k s)
  unfolding below
  within-below k p h = within-guard (length s) _ p (byte s p) h (within-byte p)

  pub within-counted : {A : Type 0} (r : ℕ → Answer A) → Within (length s) r → Within (length s) (counted r s)
  unfolding counted
  within-counted r f p h = within-bind (length s) (u16 s p) _ (within-u16 p) (λ k. within-many (length s) r f k)

  pub within-trees : {H : Type 0} (arity : H → ℕ) (head : List ℕ → ℕ → Answer H) → Within (length s) (head s) → (f k : ℕ) → Within (length s) (trees arity head f s k)
  unfolding trees
  within-trees arity head w zero zero p h = within-value (length s) nil p h
  within-trees {H} arity head w zero (suc k) p h = within-early (length s) (Trees H)
  within-trees arity head w (suc f) zero p h = within-value (length s) nil p h
  within-trees arity head w (suc f) (suc k) p h =
      within-bind (length s) (head s p) _ (w p h) (λ x q l.
      within-bind (length s) (trees arity head f s (arity x) q) _ (within-trees arity head w f (arity x) q l) (λ u t m.
      within-bind (length s) (trees arity head f s k t) _ (within-trees arity head w f k t m) (λ v. within-value (length s) _)))
