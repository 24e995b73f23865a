-- To write and then to read gives the value back, and what reads as a value is what is written of it: formats, and how they are put together.
use Prim.Native.Nat.{ℕ, ◌+◌, ◌*◌, ◌/◌, ◌%◌, ◌≤◌, ◌<◌, zero, suc}
use native.Mathlib.Omega.{arith}
use native.Mathlib.Nat.{mul_assoc, zero-add, suc-add}
use native.Mathlib.Numerals.{add-one}
use mathlib.Core.List.{List, [], ◌∷◌, ◌++◌, append_assoc}
use mathlib.Core.Bool.{Bool, true}
use mathlib.Core.Path.{◌≡◌, refl, sym, ap, subst, ◌∙◌}
use lib.ListN.{length, get_or, drop, length-drop}
use lib.Seq.{drop-cons}
use lib.Dec.{ltb}
use borrow.Author.Tests.{lt-ltb, ltb-true}
use Rattle.wire.specs.Answer.{Answer, below, bind, byte, counted, deep, early, guard, illegal, index, many, map_a, u16, u32, u64, value}
use Rattle.wire.specs.Bytes.{bytes, two}
use Rattle.wire.specs.Lists.{All, Bytes}
use Rattle.wire.proofs.Answers.{bind-value, byte-value, guard-value, map-value}

-- x is read at `at`, and post stands after it
pub record Back {A : Type 0} (r : List ℕ → ℕ → Answer A) (s : List ℕ) (at : ℕ) (x : A) (post : List ℕ) : Type 0 where
  pub to : ℕ
  pub reads : r s at ≡ value x to
  pub rest : drop to s ≡ post

pub record Format {A : Type 0} (r : List ℕ → ℕ → Answer A) (enc : A → List ℕ) (ok : A → Type 0) : Type 0 where
  pub back : (s : List ℕ) (at : ℕ) (x : A) (post : List ℕ) → ok x → drop at s ≡ enc x ++ post → Back r s at x post
  pub legal : (s : List ℕ) → Bytes s → (at : ℕ) (x : A) (q : ℕ) → r s at ≡ value x q → ok x
  pub was : (s : List ℕ) → Bytes s → (at : ℕ) (x : A) (q : ℕ) → r s at ≡ value x q → drop at s ≡ enc x ++ drop q s

pub bind_to : {A B : Type 0} (a : Answer A) (x : A) (p : ℕ) (k : A → ℕ → Answer B) (z : Answer B) → a ≡ value x p → k x p ≡ z → bind a k ≡ z
unfolding bind
bind_to a x p k z e h = rw e h

-- a reader written another way
pub format_is : {A : Type 0} (r t : List ℕ → ℕ → Answer A) (e : A → List ℕ) (o : A → Type 0) → ((s : List ℕ) (at : ℕ) → t s at ≡ r s at) → Format r e o → Format t e o
format_is {A} r t e o h F = record { back = back; legal = λ s by at x q g. F.legal s by at x q (sym (h s at) ∙ g); was = λ s by at x q g. F.was s by at x q (sym (h s at) ∙ g) }
  where
    back : (s : List ℕ) (at : ℕ) (x : A) (post : List ℕ) → o x → drop at s ≡ e x ++ post → Back t s at x post
    back s at x post k g = let b = F.back s at x post k g in record { to = b.to; reads = h s at ∙ b.reads; rest = b.rest }

-- values that stand for values: c of what is read, and d of what is written
pub format_map : {A B : Type 0} (f : List ℕ → ℕ → Answer A) (e : A → List ℕ) (o : A → Type 0) (c : A → B) (d : B → A) (e' : B → List ℕ) (o' : B → Type 0) → Format f e o → ((y : B) → o' y → o (d y) × (c (d y) ≡ y)) → ((x : A) → o x → o' (c x) × (e x ≡ e' (c x))) → Format (λ s at. map_a c (f s at)) e' o'
unfolding map_a
format_map {A} {B} f e o c d e' o' F down up = record { back = back; legal = λ s by at y q h. (parts s by at y q h).0; was = λ s by at y q h. (parts s by at y q h).1 }
  where
    back : (s : List ℕ) (at : ℕ) (y : B) (post : List ℕ) → o' y → drop at s ≡ e' y ++ post → Back (λ s at. map_a c (f s at)) s at y post
    back s at y post k g =
        let u = down y k in
        let same : e' y ≡ e (d y) = ap e' (sym u.1) ∙ sym (up (d y) u.0).1 in
        let b = F.back s at (d y) post u.0 (g ∙ ap (λ (l : List ℕ). l ++ post) same) in
        record { to = b.to; reads = ap (map_a c) b.reads ∙ ap (λ (x : B). value x b.to) u.1; rest = b.rest }

    parts : (s : List ℕ) → Bytes s → (at : ℕ) (y : B) (q : ℕ) → map_a c (f s at) ≡ value y q → o' y × (drop at s ≡ e' y ++ drop q s)
    parts s by at y q h =
        let m = map-value c (f s at) y q h in
        let u = up m.0 (F.legal s by at m.0 q m.1) in
        subst (λ (x : B). o' x × (drop at s ≡ e' x ++ drop q s)) m.2 (u.0, F.was s by at m.0 q m.1 ∙ ap (λ (l : List ℕ). l ++ drop q s) u.1)

-- the same reader, what is written and what is legal put another way
pub format_same : {A : Type 0} (f : List ℕ → ℕ → Answer A) (e : A → List ℕ) (o : A → Type 0) (e' : A → List ℕ) (o' : A → Type 0) → Format f e o → ((x : A) → o' x → o x) → ((x : A) → o x → o' x) → ((x : A) → o x → e x ≡ e' x) → Format f e' o'
format_same f e o e' o' F down up same = record {
  back = λ s at x post k g. F.back s at x post (down x k) (g ∙ ap (λ (l : List ℕ). l ++ post) (sym (same x (down x k))));
  legal = λ s by at x q h. up x (F.legal s by at x q h);
  was = λ s by at x q h. F.was s by at x q h ∙ ap (λ (l : List ℕ). l ++ drop q s) (same x (F.legal s by at x q h));
}

-- one after the other
unfoldable pub both : {A B : Type 0} → (List ℕ → ℕ → Answer A) → (List ℕ → ℕ → Answer B) → List ℕ → ℕ → Answer (A × B)
both f g s at = bind (f s at) λ x p. bind (g s p) λ y q. value (x, y) q

pub format_both : {A B : Type 0} (f : List ℕ → ℕ → Answer A) (g : List ℕ → ℕ → Answer B) (ef : A → List ℕ) (eg : B → List ℕ) (of : A → Type 0) (og : B → Type 0) → Format f ef of → Format g eg og → Format (both f g) (λ z. ef z.0 ++ eg z.1) (λ z. of z.0 × og z.1)
unfolding both
format_both {A} {B} f g ef eg of og F G = record { back = back; legal = λ s by at x q e. (parts s by at x q e).0; was = λ s by at x q e. (parts s by at x q e).1 }
  where
    back : (s : List ℕ) (at : ℕ) (z : A × B) (post : List ℕ) → of z.0 × og z.1 → drop at s ≡ (ef z.0 ++ eg z.1) ++ post → Back (both f g) s at z post
    back s at z post o e =
        let b = F.back s at z.0 (eg z.1 ++ post) o.0 (e ∙ simp append_assoc) in
        let d = G.back s b.to z.1 post o.1 b.rest in
        record { to = d.to; reads = bind_to (f s at) z.0 b.to _ _ b.reads (bind_to (g s b.to) z.1 d.to _ _ d.reads refl); rest = d.rest }

    parts : (s : List ℕ) → Bytes s → (at : ℕ) (z : A × B) (q : ℕ) → both f g s at ≡ value z q → (of z.0 × og z.1) × (drop at s ≡ (ef z.0 ++ eg z.1) ++ drop q s)
    parts s by at z q e =
        let b = bind-value (f s at) _ z q e in
        let d = bind-value (g s b.1) _ z q b.3 in
        let t : d.1 ≡ q = cc d.3 in
        let i : (b.0, d.0) ≡ z = cc d.3 in
        subst (λ (y : A × B). (of y.0 × og y.1) × (drop at s ≡ (ef y.0 ++ eg y.1) ++ drop q s)) i (
          (F.legal s by at b.0 b.1 b.2, G.legal s by b.1 d.0 d.1 d.2),
          F.was s by at b.0 b.1 b.2 ∙ ap (λ (l : List ℕ). ef b.0 ++ l) (G.was s by b.1 d.0 d.1 d.2 ∙ ap (λ (k : ℕ). eg d.0 ++ drop k s) t) ∙ simp append_assoc,
        )

-- fields bound one after the other are pairs, mapped
pub seq : {A B C : Type 0} (f : List ℕ → ℕ → Answer A) (g : List ℕ → ℕ → Answer B) (k : A → ℕ → Answer C) (c : A → B → C) (s : List ℕ) (at : ℕ) → ((x : A) (p : ℕ) → k x p ≡ map_a (c x) (g s p)) → bind (f s at) k ≡ map_a (λ (z : A × B). c z.0 z.1) (both f g s at)
unfolding both bind map_a
seq {A} {B} {C} f g k c s at h = go (f s at)
  where
    last : (x : A) (b : Answer B) → map_a (c x) b ≡ map_a (λ (z : A × B). c z.0 z.1) (bind b (λ y q. value (x, y) q))
    last x (value y q) = refl
    last x early = refl
    last x (illegal o) = refl
    last x (deep o) = refl

    go : (a : Answer A) → bind a k ≡ map_a (λ (z : A × B). c z.0 z.1) (bind a (λ x p. bind (g s p) λ y q. value (x, y) q))
    go (value x p) = h x p ∙ last x (g s p)
    go early = refl
    go (illegal o) = refl
    go (deep o) = refl

-- nothing at all
unfoldable pub nothing : List ℕ → ℕ → Answer (Unit {0})
nothing s at = value tt at

pub format_nothing : Format nothing (λ u. []) (λ u. Unit {0})
unfolding nothing
format_nothing = record { back = λ s at x post o e. record { to = at; reads = refl; rest = e }; legal = λ s by at x q e. tt; was = was }
  where
    was : (s : List ℕ) → Bytes s → (at : ℕ) (x : Unit {0}) (q : ℕ) → value tt at ≡ value x q → drop at s ≡ drop q s
    was s by at x q e = let t : at ≡ q = cc in ap (λ (k : ℕ). drop k s) t

-- a test on what was read
pub format_guard : {A : Type 0} (f : List ℕ → ℕ → Answer A) (e : A → List ℕ) (o : A → Type 0) (t : A → Bool) → Format f e o → Format (λ s at. guard t at (f s at)) e (λ x. o x × (t x ≡ true))
unfolding guard
format_guard {A} f e o t F = record { back = back; legal = λ s by at x q h. let g = guard-value t at (f s at) x q h in (F.legal s by at x q g.0, g.1); was = λ s by at x q h. F.was s by at x q (guard-value t at (f s at) x q h).0 }
  where
    back : (s : List ℕ) (at : ℕ) (x : A) (post : List ℕ) → o x × (t x ≡ true) → drop at s ≡ e x ++ post → Back (λ s at. guard t at (f s at)) s at x post
    back s at x post k g = let b = F.back s at x post k.0 g in record { to = b.to; reads = rw (b.reads, k.1); rest = b.rest }

-- numbers
pub at-cons-inside : (s : List ℕ) (at b : ℕ) (post : List ℕ) → drop at s ≡ b ∷ post → at < length s
at-cons-inside s at b post e = omega (arith, length-drop at s, ap length e)

abbrev pub Below : ℕ → ℕ → Type 0
Below n x = x < n

unfoldable pub single : ℕ → List ℕ
single b = b ∷ []

pub format_byte : Format byte single (Below 256)
unfolding byte single
format_byte = record { back = back; legal = legal; was = was }
  where
    back : (s : List ℕ) (at b : ℕ) (post : List ℕ) → b < 256 → drop at s ≡ b ∷ post → Back byte s at b post
    back s at b post h e =
        let l : at < length s = at-cons-inside s at b post e in
        let d = drop-cons s at 0 l in
        let g : get_or s at 0 ≡ b = cc in
        let t : drop (suc at) s ≡ post = cc in
        record { to = at + 1; reads = rw (lt-ltb at (length s) l, g); rest = rw add-one t }

    legal : (s : List ℕ) → Bytes s → (at x q : ℕ) → byte s at ≡ value x q → x < 256
    legal s by at x q e = let b = byte-value s at x q e in omega (arith, by at)

    was : (s : List ℕ) → Bytes s → (at v q : ℕ) → byte s at ≡ value v q → drop at s ≡ v ∷ drop q s
    was s by at v q e =
        let b = byte-value s at v q e in
        let d = drop-cons s at 0 b.inside in
        let g : q ≡ suc at = omega (arith, b.to) in
        d ∙ ap (λ (x : ℕ). x ∷ drop (suc at) s) (sym b.is) ∙ ap (λ (x : ℕ). v ∷ drop x s) (sym g)

unfoldable pub power : ℕ → ℕ
power zero = 1
power (suc n) = 256 * power n

pub bytes-add : (n m a b : ℕ) → a < power n → bytes (n + m) (a + power n * b) ≡ bytes n a ++ bytes m b
unfolding bytes power
bytes-add zero m a b h =
    let g : a + 1 * b ≡ b = omega arith in
    rw (zero-add, g)
bytes-add (suc n) m a b h =
    let t : 256 * power n * b ≡ 256 * (power n * b) = mul_assoc 256 (power n) b in
    let lo : (a + 256 * power n * b) % 256 ≡ a % 256 = omega arith in
    let hi : (a + 256 * power n * b) / 256 ≡ a / 256 + power n * b = omega arith in
    rw (suc-add, lo, hi) (ap (λ (l : List ℕ). a % 256 ∷ l) (bytes-add n m (a / 256) b (omega arith)))

module _ (n P Q : ℕ) (r : List ℕ → ℕ → Answer ℕ) (F : Format r (bytes n) (Below P)) (apart : (x : ℕ) → x < Q → (x % P < P) × (x / P < P) × (x % P + P * (x / P) ≡ x)) (small : (a b : ℕ) → a < P → b < P → a + P * b < Q) (split : (a b : ℕ) → a < P → bytes (n + n) (a + P * b) ≡ bytes n a ++ bytes n b) where
  unfoldable pub wide : List ℕ → ℕ → Answer ℕ
  wide s at = bind (r s at) λ a p. bind (r s p) λ b q. value (a + P * b) q

  pub format_wide : Format wide (bytes (n + n)) (Below Q)
  unfolding wide
  format_wide = record { back = back; legal = λ s by at x q e. (parts s by at x q e).0; was = λ s by at x q e. (parts s by at x q e).1 }
    where
      back : (s : List ℕ) (at x : ℕ) (post : List ℕ) → x < Q → drop at s ≡ bytes (n + n) x ++ post → Back wide s at x post
      back s at x post h e =
          let k = apart x h in
          let g : bytes (n + n) x ≡ bytes n (x % P) ++ bytes n (x / P) = ap (bytes (n + n)) (sym k.2) ∙ split (x % P) (x / P) k.0 in
          let a = F.back s at (x % P) (bytes n (x / P) ++ post) k.0 (e ∙ ap (λ (l : List ℕ). l ++ post) g ∙ simp append_assoc) in
          let b = F.back s a.to (x / P) post k.1 a.rest in
          record { to = b.to; reads = bind_to (r s at) (x % P) a.to _ _ a.reads (bind_to (r s a.to) (x / P) b.to _ _ b.reads (ap (λ (v : ℕ). value v b.to) k.2)); rest = b.rest }

      parts : (s : List ℕ) → Bytes s → (at x q : ℕ) → wide s at ≡ value x q → (x < Q) × (drop at s ≡ bytes (n + n) x ++ drop q s)
      parts s by at x q e =
          let b = bind-value (r s at) _ x q e in
          let d = bind-value (r s b.1) _ x q b.3 in
          let v : b.0 + P * d.0 ≡ x = cc d.3 in
          let t : d.1 ≡ q = cc d.3 in
          let i = F.legal s by at b.0 b.1 b.2 in
          let j = F.legal s by b.1 d.0 d.1 d.2 in
          subst (λ (y : ℕ). (y < Q) × (drop at s ≡ bytes (n + n) y ++ drop q s)) v (
            small b.0 d.0 i j,
            F.was s by at b.0 b.1 b.2 ∙ ap (λ (l : List ℕ). bytes n b.0 ++ l) (F.was s by b.1 d.0 d.1 d.2 ∙ ap (λ (k : ℕ). bytes n d.0 ++ drop k s) t) ∙ simp (append_assoc, split b.0 d.0 i),
          )

pub format8 : Format byte (bytes 1) (Below 256)
unfolding bytes single
format8 = format_same byte single (Below 256) (bytes 1) (Below 256) format_byte (λ x h. h) (λ x h. h) (λ x h. let g : x % 256 ≡ x = omega arith in rw g)

pub format16 : Format u16 two (Below 65536)
unfolding u16 two wide bytes power
format16 = format_wide 1 256 65536 byte format8 (λ x h. (omega arith, omega arith, omega arith)) (λ a b h k. omega arith) (λ a b h. bytes-add 1 1 a b h)

pub format32 : Format u32 (bytes 4) (Below 4294967296)
unfolding u32 two wide bytes power
format32 = format_wide 2 65536 4294967296 u16 format16 (λ x h. (omega arith, omega arith, omega arith)) (λ a b h k. omega arith) (λ a b h. bytes-add 2 2 a b h)

pub format64 : Format u64 (bytes 8) (Below 18446744073709551616)
unfolding u64 wide bytes power
format64 = format_wide 4 4294967296 18446744073709551616 u32 format32 (λ x h. (omega arith, omega arith, omega arith)) (λ a b h k. omega arith) (λ a b h. bytes-add 4 4 a b h)

pub format_index : (n : ℕ) → n ≤ 65536 → Format (index n) two (Below n)
unfolding index
format_index n h = format_same (index n) two _ two (Below n) (format_guard u16 two (Below 65536) (λ i. ltb i n) format16) (λ x k. (omega arith, lt-ltb x n k)) (λ x k. ltb-true x n k.1) (λ x k. refl)

pub format_below : (n : ℕ) → n ≤ 256 → Format (below n) single (Below n)
unfolding below
format_below n h = format_same (below n) single _ single (Below n) (format_guard byte single (Below 256) (λ i. ltb i n) format_byte) (λ x k. (omega arith, lt-ltb x n k)) (λ x k. ltb-true x n k.1) (λ x k. refl)

-- lists
unfoldable pub enc_all : {A : Type 0} → (A → List ℕ) → List A → List ℕ
enc_all e [] = []
enc_all e (x ∷ xs) = e x ++ enc_all e xs

module _ {A : Type 0} (f : List ℕ → ℕ → Answer A) (e : A → List ℕ) (o : A → Type 0) (F : Format f e o) (s : List ℕ) where
  pub many-back : (xs : List A) (at : ℕ) (post : List ℕ) → All o xs → drop at s ≡ enc_all e xs ++ post → Back (λ s at. many (f s) (length xs) at) s at xs post
  unfolding many enc_all All
  many-back [] at post a h = record { to = at; reads = refl; rest = h }
  many-back (x ∷ xs) at post a h =
      let b = F.back s at x (enc_all e xs ++ post) a.0 (h ∙ simp append_assoc) in
      let d = many-back xs b.to post a.1 b.rest in
      record { to = d.to; reads = bind_to (f s at) x b.to _ _ b.reads (bind_to (many (f s) (length xs) b.to) xs d.to _ _ d.reads refl); rest = d.rest }

  pub many-was : Bytes s → (n at : ℕ) (xs : List A) (q : ℕ) → many (f s) n at ≡ value xs q → All o xs × (length xs ≡ n) × (drop at s ≡ enc_all e xs ++ drop q s)
  unfolding many enc_all All
  many-was by zero at xs q h =
      let g : [] ≡ xs = cc in let t : at ≡ q = cc in
      subst (λ (y : List A). All o y × (length y ≡ 0) × (drop at s ≡ enc_all e y ++ drop q s)) g (tt, refl, ap (λ (k : ℕ). drop k s) t)
  many-was by (suc n) at xs q h =
      let b = bind-value (f s at) _ xs q h in
      let d = bind-value (many (f s) n b.1) _ xs q b.3 in
      let g : b.0 ∷ d.0 ≡ xs = cc d.3 in
      let t : d.1 ≡ q = cc d.3 in
      let r = many-was by n b.1 d.0 d.1 d.2 in
      subst (λ (y : List A). All o y × (length y ≡ suc n) × (drop at s ≡ enc_all e y ++ drop q s)) g (
        (F.legal s by at b.0 b.1 b.2, r.0),
        ap suc r.1,
        F.was s by at b.0 b.1 b.2 ∙ ap (λ (l : List ℕ). e b.0 ++ l) (r.2 ∙ ap (λ (k : ℕ). enc_all e d.0 ++ drop k s) t) ∙ simp append_assoc,
      )

-- a number, and as many things
module _ {A : Type 0} (g : List ℕ → ℕ → Answer ℕ) (eg : ℕ → List ℕ) (og : ℕ → Type 0) (G : Format g eg og) (f : List ℕ → ℕ → Answer A) (e : A → List ℕ) (o : A → Type 0) (F : Format f e o) where
  pub format_times : Format (λ s at. bind (g s at) λ n p. many (f s) n p) (λ xs. eg (length xs) ++ enc_all e xs) (λ xs. og (length xs) × All o xs)
  format_times = record { back = back; legal = λ s by at x q e. (parts s by at x q e).0; was = λ s by at x q e. (parts s by at x q e).1 }
    where
      back : (s : List ℕ) (at : ℕ) (xs : List A) (post : List ℕ) → og (length xs) × All o xs → drop at s ≡ (eg (length xs) ++ enc_all e xs) ++ post → Back (λ s at. bind (g s at) λ n p. many (f s) n p) s at xs post
      back s at xs post k h =
          let b = G.back s at (length xs) (enc_all e xs ++ post) k.0 (h ∙ simp append_assoc) in
          let d = many-back f e o F s xs b.to post k.1 b.rest in
          record { to = d.to; reads = bind_to (g s at) (length xs) b.to _ _ b.reads d.reads; rest = d.rest }

      parts : (s : List ℕ) → Bytes s → (at : ℕ) (xs : List A) (q : ℕ) → bind (g s at) (λ n p. many (f s) n p) ≡ value xs q → (og (length xs) × All o xs) × (drop at s ≡ (eg (length xs) ++ enc_all e xs) ++ drop q s)
      parts s by at xs q h =
          let b = bind-value (g s at) (λ n p. many (f s) n p) xs q h in
          let w = many-was f e o F s by b.0 b.1 xs q b.3 in
          let t : b.0 ≡ length xs = sym w.1 in
          let k = G.legal s by at b.0 b.1 b.2 in
          ((subst og t k, w.0), G.was s by at b.0 b.1 b.2 ∙ ap (λ (n : ℕ). eg n ++ drop b.1 s) t ∙ ap (λ (l : List ℕ). eg (length xs) ++ l) w.2 ∙ simp append_assoc)

pub format_counted : {A : Type 0} (f : List ℕ → ℕ → Answer A) (e : A → List ℕ) (o : A → Type 0) → Format f e o → Format (λ s at. counted (f s) s at) (λ xs. two (length xs) ++ enc_all e xs) (λ xs. (length xs < 65536) × All o xs)
unfolding counted
format_counted f e o F = format_times u16 two (Below 65536) format16 f e o F
