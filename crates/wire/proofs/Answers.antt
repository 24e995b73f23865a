-- Laws of answers: what was found follows from the value found; what is read goes forward and stays inside.
use Prim.Native.Nat.{ℕ, ◌+◌, ◌*◌, ◌≤◌, ◌<◌, zero, suc}
use mathlib.Core.List.{List, [], ◌∷◌}
use mathlib.Core.Bool.{Bool, true, false, cond}
use mathlib.Core.Path.{◌≡◌, refl, sym, ap, ◌∙◌}
use lib.ListN.{length, get_or}
use lib.Dec.{ltb}
use borrow.Author.Tests.{ltb-true, le-ltb}
use native.Mathlib.Omega.{arith}
use Rattle.wire.specs.Answer.{Answer, below, bind, byte, deep, early, guard, illegal, index, many, map_a, u16, u32, u64, value}

pub map-bind : {A B C : Type 0} (g : B → C) (a : Answer A) (k : A → ℕ → Answer B) → map_a g (bind a k) ≡ bind a (λ x q. map_a g (k x q))
unfolding map_a bind
map-bind g (value x q) k = refl
map-bind g early k = refl
map-bind g (illegal o) k = refl
map-bind g (deep o) k = refl

-- what was read, from the value found
pub bind-value : {A B : Type 0} (a : Answer A) (k : A → ℕ → Answer B) (y : B) (r : ℕ) → bind a k ≡ value y r → (x : A) × (q : ℕ) × (a ≡ value x q) × (k x q ≡ value y r)
unfolding bind
bind-value (value x q) k y r e = (x, q, refl, e)
bind-value early k y r e = let z : ◌≡◌ {A = ℕ} 0 1 = cc in absurd (omega arith)
bind-value (illegal o) k y r e = let z : ◌≡◌ {A = ℕ} 0 1 = cc in absurd (omega arith)
bind-value (deep o) k y r e = let z : ◌≡◌ {A = ℕ} 0 1 = cc in absurd (omega arith)

pub map-value : {A B : Type 0} (f : A → B) (a : Answer A) (y : B) (r : ℕ) → map_a f a ≡ value y r → (x : A) × (a ≡ value x r) × (f x ≡ y)
unfolding map_a
map-value f (value x q) y r e = let g : q ≡ r = cc in let h : f x ≡ y = cc in (x, ap (value x) g, h)
map-value f early y r e = let z : ◌≡◌ {A = ℕ} 0 1 = cc in absurd (omega arith)
map-value f (illegal o) y r e = let z : ◌≡◌ {A = ℕ} 0 1 = cc in absurd (omega arith)
map-value f (deep o) y r e = let z : ◌≡◌ {A = ℕ} 0 1 = cc in absurd (omega arith)

pub guard-value : {A : Type 0} (t : A → Bool) (at : ℕ) (a : Answer A) (y : A) (r : ℕ) → guard t at a ≡ value y r → (a ≡ value y r) × (t y ≡ true)
unfolding guard
guard-value t at (value x q) y r e = go (t x) refl e
  where
    go : (b : Bool) → t x ≡ b → cond b (value x q) (illegal at) ≡ value y r → (value x q ≡ value y r) × (t y ≡ true)
    go true g d = let h : x ≡ y = cc in (d, ap t (sym h) ∙ g)
    go false g d = let z : ◌≡◌ {A = ℕ} 0 1 = cc in absurd (omega arith)
guard-value t at early y r e = let z : ◌≡◌ {A = ℕ} 0 1 = cc in absurd (omega arith)
guard-value t at (illegal o) y r e = let z : ◌≡◌ {A = ℕ} 0 1 = cc in absurd (omega arith)
guard-value t at (deep o) y r e = let z : ◌≡◌ {A = ℕ} 0 1 = cc in absurd (omega arith)

pub record ByteAt (s : List ℕ) (at v q : ℕ) : Type 0 where
  pub is : v ≡ get_or s at 0
  pub to : q ≡ at + 1
  pub inside : at < length s

pub byte-value : (s : List ℕ) (at v q : ℕ) → byte s at ≡ value v q → ByteAt s at v q
unfolding byte
byte-value s at v q e = go (ltb at (length s)) refl e
  where
    go : (b : Bool) → ltb at (length s) ≡ b → cond b (value (get_or s at 0) (at + 1)) early ≡ value v q → ByteAt s at v q
    go true g d = record { is = cc; to = cc; inside = ltb-true at (length s) g }
    go false g d = let z : ◌≡◌ {A = ℕ} 0 1 = cc in absurd (omega arith)

pub byte-ends : (s : List ℕ) (at : ℕ) → length s ≤ at → byte s at ≡ early
unfolding byte
byte-ends s at h = rw (le-ltb at (length s) h)

pub record PairAt (s : List ℕ) (at v q : ℕ) : Type 0 where
  pub is : v ≡ get_or s at 0 + 256 * get_or s (at + 1) 0
  pub to : q ≡ at + 2
  pub inside : at + 1 < length s

pub u16-value : (s : List ℕ) (at v q : ℕ) → u16 s at ≡ value v q → PairAt s at v q
unfolding u16
u16-value s at v q e =
    let b = bind-value (byte s at) _ v q e in
    let x = byte-value s at b.0 b.1 b.2 in
    let d = bind-value (byte s b.1) _ v q b.3 in
    let y = byte-value s b.1 d.0 d.1 d.2 in
    let m : b.0 + 256 * d.0 ≡ v = cc d.3 in
    let n : d.1 ≡ q = cc d.3 in
    let g : get_or s b.1 0 ≡ get_or s (at + 1) 0 = ap (λ (k : ℕ). get_or s k 0) x.to in
    record { is = omega arith; to = omega arith; inside = omega arith }

-- what is read goes forward, and stays inside
pub record Forward (n at q : ℕ) : Type 0 where
  pub on : at ≤ q
  pub inside : at ≤ n → q ≤ n

abbrev pub Fwd : {A : Type 0} → ℕ → ℕ → Answer A → Type 0
Fwd {A} n at a = (x : A) (q : ℕ) → a ≡ value x q → Forward n at q

pub fwd-value : {A : Type 0} (n at : ℕ) (x : A) → Fwd n at (value x at)
fwd-value n at x y q e = let g : at ≡ q = cc in record { on = omega arith; inside = omega arith }

pub fwd-bind : {A B : Type 0} (n at : ℕ) (a : Answer A) (k : A → ℕ → Answer B) → Fwd n at a → ((x : A) (p : ℕ) → Fwd n p (k x p)) → Fwd n at (bind a k)
fwd-bind n at a k f g y r e =
    let b = bind-value a k y r e in
    let u = f b.0 b.1 b.2 in
    let w = g b.0 b.1 y r b.3 in
    record { on = omega arith; inside = λ h. w.inside (u.inside h) }

pub fwd-map : {A B : Type 0} (n at : ℕ) (f : A → B) (a : Answer A) → Fwd n at a → Fwd n at (map_a f a)
fwd-map n at f a h y r e = let m = map-value f a y r e in h m.0 r m.1

pub fwd-guard : {A : Type 0} (n at o : ℕ) (t : A → Bool) (a : Answer A) → Fwd n at a → Fwd n at (guard t o a)
fwd-guard n at o t a h y r e = h y r (guard-value t o a y r e).0

pub fwd-cond : {A : Type 0} (n at : ℕ) (b : Bool) (x y : Answer A) → Fwd n at x → Fwd n at y → Fwd n at (cond b x y)
fwd-cond n at true x y f g = f
fwd-cond n at false x y f g = g

pub fwd-byte : (s : List ℕ) (at : ℕ) → Fwd (length s) at (byte s at)
fwd-byte s at v q e = let b = byte-value s at v q e in record { on = omega arith; inside = omega arith }

pub fwd-u16 : (s : List ℕ) (at : ℕ) → Fwd (length s) at (u16 s at)
fwd-u16 s at v q e = let b = u16-value s at v q e in record { on = omega arith; inside = omega arith }

pub fwd-u32 : (s : List ℕ) (at : ℕ) → Fwd (length s) at (u32 s at)
unfolding u32
fwd-u32 s at = fwd-bind (length s) at (u16 s at) _ (fwd-u16 s at) (λ a p. fwd-bind (length s) p (u16 s p) _ (fwd-u16 s p) (λ b q. fwd-value (length s) q _))

pub fwd-index : (n : ℕ) (s : List ℕ) (at : ℕ) → Fwd (length s) at (index n s at)
unfolding index
fwd-index n s at = fwd-guard (length s) at at _ (u16 s at) (fwd-u16 s at)

pub fwd-u64 : (s : List ℕ) (at : ℕ) → Fwd (length s) at (u64 s at)
unfolding u64
fwd-u64 s at = fwd-bind (length s) at (u32 s at) _ (fwd-u32 s at) (λ a p. fwd-bind (length s) p (u32 s p) _ (fwd-u32 s p) (λ b q. fwd-value (length s) q _))

pub fwd-below : (n : ℕ) (s : List ℕ) (at : ℕ) → Fwd (length s) at (below n s at)
unfolding below
fwd-below n s at = fwd-guard (length s) at at _ (byte s at) (fwd-byte s at)

pub fwd-many : {A : Type 0} (m : ℕ) (r : ℕ → Answer A) → ((p : ℕ) → Fwd m p (r p)) → (n at : ℕ) → Fwd m at (many r n at)
unfolding many
fwd-many m r f zero at = fwd-value m at []
fwd-many m r f (suc n) at = fwd-bind m at (r at) _ (f at) (λ x p. fwd-bind m p (many r n p) _ (fwd-many m r f n p) (λ xs q. fwd-value m q _))

pub many-length : {A : Type 0} (r : ℕ → Answer A) (n at : ℕ) (xs : List A) (q : ℕ) → many r n at ≡ value xs q → length xs ≡ n
unfolding many
many-length r zero at xs q e = let g : [] ≡ xs = cc in sym (ap length g)
many-length r (suc n) at xs q e =
    let b = bind-value (r at) _ xs q e in
    let d = bind-value (many r n b.1) _ xs q b.3 in
    let g : b.0 ∷ d.0 ≡ xs = cc d.3 in
    sym (ap length g) ∙ ap suc (many-length r n b.1 d.0 d.1 d.2)

pub map-map : {A B C : Type 0} (g : B → C) (f : A → B) (a : Answer A) → map_a g (map_a f a) ≡ map_a (λ x. g (f x)) a
unfolding map_a
map-map g f (value x q) = refl
map-map g f early = refl
map-map g f (illegal o) = refl
map-map g f (deep o) = refl

pub cond-true : {A : Type 0} (b : Bool) (x y : A) → b ≡ true → x ≡ cond b x y
cond-true b x y e = rw e

pub cond-false : {A : Type 0} (b : Bool) (x y : A) → b ≡ false → y ≡ cond b x y
cond-false b x y e = rw e
