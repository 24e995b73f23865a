-- Laws of the name section: names compared where they stand, and the loop over them.
use Rattle.std.proofs.Common.{◌≡◌, ℕ, zero, suc, ◌+◌, ◌-◌, ◌<◌, ◌≤◌, Bool, true, false, cond, not, ◌&&◌, ◌||◌, eqb, ltb, leb, List, [], ◌∷◌, ◌++◌, length, get_or, take, drop, sym, refl, ap, ◌∙◌, ⊎_elim, add-one, arith, length-drop, drop_of_length-le, length-take, take_all, drop-cons, le-ltb, lt-ltb, ne_eqb, le-leb, leb-true}
use mathlib.Core.Bool.{and_assoc, and-eq-true_iff, and-true, or_assoc}
use borrow.Author.Tests.{lt-leb}
use Rattle.std.specs.Prelude.{Ok, Err}
use Rattle.wire.specs.declared.answer.Stop.{Stop}
use Rattle.wire.specs.declared.answer.Stop.TheVariants.{Illegal}
use Rattle.wire.specs.declared.answer.Number.{Number}
use Rattle.wire.specs.Answer.{Answer, bind, byte, deep, early, guard, illegal, many, value}
use Rattle.pack_rules.specs.Read.{char, name, name_byte, name_bytes, names_after, size}
use Rattle.wire.specs.Code.{read_of, skip}
use Rattle.wire.proofs.Answers.{bind-value, byte-value, guard-value}
use Rattle.wire.proofs.Codes.{read_found}
use Rattle.wire.proofs.Writers.{lt-or-le}
use Rattle.pack_rules.specs.Names.{eq_name, member}
use Rattle.pack.specs.RawNames.{Inside, one_of, raw_end, raw_name, raw_names}

or-true : (b x : Bool) → b ≡ true → true ≡ b || x
or-true b x e = rw e

or-false : (b x : Bool) → b ≡ false → x ≡ b || x
or-false b x e = rw e

-- the bytes of a name as ranges
abbrev ranges : ℕ → Bool
ranges b = leb 48 b && ltb b 58 || (leb 65 b && ltb b 91 || (eqb b 95 || leb 97 b && ltb b 123))

name-ranges : (b : ℕ) → name_byte b ≡ ranges b
unfolding name_byte
name-ranges b = ⊎_elim below-48 (λ a. ⊎_elim (below-58 a) (λ c. ⊎_elim (below-65 c) (λ d. ⊎_elim (below-91 d) (λ e. ⊎_elim (below-97 e) above (lt-or-le b 97)) (lt-or-le b 91)) (lt-or-le b 65)) (lt-or-le b 58)) (lt-or-le b 48)
  where
    below-48 : b < 48 → name_byte b ≡ ranges b
    below-48 h = simp (lt-ltb b 48 h, lt-leb 48 b h, lt-leb 65 b (omega arith), lt-leb 97 b (omega arith), ne_eqb b 95 (λ e. omega arith))

    below-58 : 48 ≤ b → b < 58 → name_byte b ≡ ranges b
    below-58 l h = simp (le-ltb b 48 l, le-leb 48 b l, lt-ltb b 58 h)

    below-65 : 58 ≤ b → b < 65 → name_byte b ≡ ranges b
    below-65 l h = simp (le-ltb b 48 (omega arith), le-leb 48 b (omega arith), le-ltb b 58 l, lt-ltb b 65 h, lt-leb 65 b h, lt-leb 97 b (omega arith), ne_eqb b 95 (λ e. omega arith))

    below-91 : 65 ≤ b → b < 91 → name_byte b ≡ ranges b
    below-91 l h = simp (le-ltb b 48 (omega arith), le-leb 48 b (omega arith), le-ltb b 58 (omega arith), le-ltb b 65 l, le-leb 65 b l, lt-ltb b 91 h)

    line : (t : Bool) → cond t true false ≡ t || false
    line true = refl
    line false = refl

    below-97 : 91 ≤ b → b < 97 → name_byte b ≡ ranges b
    below-97 l h = simp (le-ltb b 48 (omega arith), le-leb 48 b (omega arith), le-ltb b 58 (omega arith), le-ltb b 65 (omega arith), le-leb 65 b (omega arith), le-ltb b 91 l, lt-ltb b 97 h, lt-leb 97 b h) (line (eqb b 95))

    above : 97 ≤ b → name_byte b ≡ ranges b
    above l = simp (le-ltb b 48 (omega arith), le-leb 48 b (omega arith), le-ltb b 58 (omega arith), le-ltb b 65 (omega arith), le-leb 65 b (omega arith), le-ltb b 91 (omega arith), le-ltb b 97 l, le-leb 97 b l, ne_eqb b 95 (λ e. omega arith))

pub name-told : (b : ℕ) (digit upper lower : Bool) → digit ≡ leb 48 b && ltb b 58 → upper ≡ leb 65 b && ltb b 91 → lower ≡ leb 97 b && ltb b 123 → ((digit || upper) || eqb b 95) || lower ≡ name_byte b
name-told b digit upper lower x y z = (λ i. ((x i || y i) || eqb b 95) || z i) ∙ or_assoc (leb 48 b && ltb b 58 || leb 65 b && ltb b 91) (eqb b 95) (leb 97 b && ltb b 123) ∙ or_assoc (leb 48 b && ltb b 58) (leb 65 b && ltb b 91) (eqb b 95 || leb 97 b && ltb b 123) ∙ sym (name-ranges b)

-- the bytes of a name, one more and all
pub bytes-more : (n : List ℕ) (i : ℕ) (a r : Bool) → i < length n → r ≡ name_byte (get_or n i 0) → a && name_bytes (drop i n) ≡ name_bytes n → a && r && name_bytes (drop (i + 1) n) ≡ name_bytes n
unfolding name_bytes
bytes-more n i a r l e h =
    and_assoc a r _
    ∙ ap (λ (b : Bool). a && (b && name_bytes (drop (i + 1) n))) e
    ∙ ap (λ (k : ℕ). a && (name_byte (get_or n i 0) && name_bytes (drop k n))) (add-one i)
    ∙ sym (ap (λ (x : List ℕ). a && name_bytes x) (drop-cons n i 0 l)) ∙ h

pub bytes-done : (n : List ℕ) (i : ℕ) (a : Bool) → length n ≤ i → a && name_bytes (drop i n) ≡ name_bytes n → a ≡ name_bytes n
unfolding name_bytes
bytes-done n i a l h = sym (and-true a) ∙ sym (ap (λ (x : List ℕ). a && name_bytes x) (drop_of_length-le n l)) ∙ h

-- the bytes of a name in parts, which may overlap
bytes-absorbed : (n : List ℕ) (j : ℕ) → name_bytes (take j n) && name_bytes n ≡ name_bytes n
unfolding name_bytes
bytes-absorbed [] zero = refl
bytes-absorbed [] (suc j) = refl
bytes-absorbed (b ∷ n) zero = refl
bytes-absorbed (b ∷ n) (suc j) = go (name_byte b) (bytes-absorbed n j)
  where
    go : (x : Bool) → name_bytes (take j n) && name_bytes n ≡ name_bytes n → x && name_bytes (take j n) && (x && name_bytes n) ≡ x && name_bytes n
    go true e = e
    go false e = refl

bytes-parts : (n : List ℕ) (i j : ℕ) → i ≤ j → name_bytes (take j n) && name_bytes (drop i n) ≡ name_bytes n
unfolding name_bytes
bytes-parts n zero j l = bytes-absorbed n j
bytes-parts n (suc i) zero l = absurd (omega arith)
bytes-parts [] (suc i) (suc j) l = refl
bytes-parts (b ∷ n) (suc i) (suc j) l = and_assoc (name_byte b) (name_bytes (take j n)) (name_bytes (drop i n)) ∙ ap (λ (x : Bool). name_byte b && x) (bytes-parts n i j (omega arith))

pub bytes-last : (n : List ℕ) (b : ℕ) (r : Bool) → r ≡ name_bytes (take (length n - b) (drop b n)) → r ≡ name_bytes (drop b n)
bytes-last n b r e = e ∙ ap name_bytes (take_all (length n - b) (drop b n) (omega (arith, length-drop b n)))

pub bytes-ends : (n : List ℕ) (i j : ℕ) (x y : Bool) → x ≡ name_bytes (take j n) → y ≡ name_bytes (take (length n - i) (drop i n)) → i ≤ j → x && y ≡ name_bytes n
bytes-ends n i j x y e f l = (λ k. e k && bytes-last n i y f k) ∙ bytes-parts n i j l

char-there : (s : List ℕ) (at : ℕ) → at < length s → name_byte (get_or s at 0) ≡ true → char s at ≡ value (get_or s at 0) (at + 1)
unfolding char byte guard
char-there s at l e = rw (lt-ltb at (length s) l, e)

chars-there : (s : List ℕ) (n at : ℕ) → at + n ≤ length s → name_bytes (take n (drop at s)) ≡ true → many (char s) n at ≡ value (take n (drop at s)) (at + n)
unfolding many bind name_bytes
chars-there s zero at l e = ap (value []) (omega arith)
chars-there s (suc n) at l e =
    let d : drop at s ≡ get_or s at 0 ∷ drop (at + 1) s = rw add-one (drop-cons s at 0 (omega arith)) in
    let b : (name_byte (get_or s at 0) ≡ true) × (name_bytes (take n (drop (at + 1) s)) ≡ true) = (and-eq-true_iff _ _).0 (sym (ap (λ (x : List ℕ). name_bytes (take (suc n) x)) d) ∙ e) in
    let k : at + 1 + n ≡ at + suc n = omega arith in
    rw (char-there s at (omega arith) b.0, chars-there s n (at + 1) (omega arith) b.1, d, k)

-- a length byte that is not 0
pub size-found : (s : List ℕ) (at : ℕ) (n : Number) → Ok n ≡ read_of (byte s at) → 0 < n.value → Ok n ≡ read_of (size s at)
unfolding size guard read_of
size-found s at n h z = rw (read_found (byte s at) n h, lt-ltb 0 n.value z)

-- characters that are all there and all a name's
pub spelled-skip : (s : List ℕ) (n at : ℕ) → leb (at + n) (length s) && name_bytes (take n (drop at s)) ≡ true → skip (many (char s) n at) ≡ Ok (at + n)
unfolding skip
spelled-skip s n at h = let b = (and-eq-true_iff (leb (at + n) (length s)) _).0 h in ap skip (chars-there s n at (leb-true _ _ b.0) b.1)

pub spelled-inside : (s : List ℕ) (n at : ℕ) → leb (at + n) (length s) && name_bytes (take n (drop at s)) ≡ true → at + n ≤ length s
spelled-inside s n at h = leb-true _ _ ((and-eq-true_iff _ _).0 h).0

pub inside-step : (s : List ℕ) (n at : ℕ) → 0 < n → Inside s n at → (at + 1 + get_or s at 0 ≤ length s) × Inside s (n - 1) (at + 1 + get_or s at 0)
unfolding Inside
inside-step s zero at l h = absurd (omega arith)
inside-step s (suc n) at l h = let e : suc n - 1 ≡ n = omega arith in (h.0, rw e h.1)

pub raw-length : (s : List ℕ) (x : ℕ) → x + 1 + get_or s x 0 ≤ length s → length (raw_name s x) ≡ get_or s x 0
unfolding raw_name
raw-length s x h = simp (length-take, length-drop) (omega arith)

-- the bytes of the name that ends at `to`
pub raw-part : (s : List ℕ) (p to : ℕ) → to ≡ p + 1 + get_or s p 0 → take (to - (p + 1)) (drop (p + 1) s) ≡ raw_name s p
unfolding raw_name
raw-part s p to e = let k : to - (p + 1) ≡ get_or s p 0 = omega arith in ap (λ (y : ℕ). take y (drop (p + 1) s)) k

-- two names, compared as parts of the pack
pub same-raw : (s : List ℕ) (a b : ℕ) → eq_name (take (a + 1 + get_or s a 0 - (a + 1)) (drop (a + 1) s)) (take (b + 1 + get_or s b 0 - (b + 1)) (drop (b + 1) s)) ≡ eq_name (raw_name s a) (raw_name s b)
same-raw s a b = λ j. eq_name (raw-part s a (a + 1 + get_or s a 0) refl j) (raw-part s b (b + 1 + get_or s b 0) refl j)

pub one_of-found : (s : List ℕ) (x n at : ℕ) (z r : Bool) → 0 < n → r ≡ true → r ≡ eq_name (raw_name s x) (raw_name s at) → one_of s x n at ≡ z → true ≡ z
unfolding one_of raw_names member
one_of-found s x zero at z r l e f g = absurd (omega arith)
one_of-found s x (suc n) at z r l e f g = or-true (eq_name (raw_name s x) (raw_name s at)) _ (sym f ∙ e) ∙ g

pub one_of-went : (s : List ℕ) (x n at : ℕ) (z r : Bool) → 0 < n → r ≡ false → r ≡ eq_name (raw_name s x) (raw_name s at) → one_of s x n at ≡ z → one_of s x (n - 1) (at + 1 + get_or s at 0) ≡ z
unfolding one_of raw_names member
one_of-went s x zero at z r l e f g = absurd (omega arith)
one_of-went s x (suc n) at z r l e f g = let h : suc n - 1 ≡ n = omega arith in rw h (or-false (eq_name (raw_name s x) (raw_name s at)) _ (sym f ∙ e) ∙ g)

pub one_of-done : (s : List ℕ) (x n at : ℕ) (z : Bool) → n ≤ 0 → one_of s x n at ≡ z → false ≡ z
unfolding one_of raw_names member
one_of-done s x zero at z l g = g
one_of-done s x (suc n) at z l g = absurd (omega arith)

raw_end-more : (s : List ℕ) (n at : ℕ) → raw_end s (suc n) at ≡ raw_end s n at + 1 + get_or s (raw_end s n at) 0
unfolding raw_end
raw_end-more s zero at = refl
raw_end-more s (suc n) at = raw_end-more s n (at + 1 + get_or s at 0)

pub raw_names-more : (s : List ℕ) (n at : ℕ) → raw_names s (suc n) at ≡ raw_names s n at ++ raw_name s (raw_end s n at) ∷ []
unfolding raw_names raw_end
raw_names-more s zero at = refl
raw_names-more s (suc n) at = ap (λ (l : List (List ℕ)). raw_name s at ∷ l) (raw_names-more s n (at + 1 + get_or s at 0))

Inside-more : (s : List ℕ) (n at : ℕ) → Inside s n at → raw_end s n at + 1 + get_or s (raw_end s n at) 0 ≤ length s → Inside s (suc n) at
unfolding Inside raw_end
Inside-more s zero at i h = (h, tt)
Inside-more s (suc n) at i h = (i.0, Inside-more s n (at + 1 + get_or s at 0) i.1 h)

-- what a name is, from the value found
pub record NameAt (s : List ℕ) (at : ℕ) (x : List ℕ) (q : ℕ) : Type 0 where
  pub is : x ≡ raw_name s at
  pub to : q ≡ at + 1 + get_or s at 0
  pub inside : q ≤ length s

record CharsAt (s : List ℕ) (n at : ℕ) (x : List ℕ) (q : ℕ) : Type 0 where
  is : x ≡ take n (drop at s)
  to : q ≡ at + n
  inside : at ≤ length s → q ≤ length s

chars-value : (s : List ℕ) (n at : ℕ) (x : List ℕ) (q : ℕ) → many (char s) n at ≡ value x q → CharsAt s n at x q
unfolding many char
chars-value s zero at x q e = let g : [] ≡ x = cc in let t : at ≡ q = cc in record { is = sym g; to = omega arith; inside = omega arith }
chars-value s (suc n) at x q e =
    let b = bind-value (char s at) _ x q e in
    let d = bind-value (many (char s) n b.1) _ x q b.3 in
    let g : b.0 ∷ d.0 ≡ x = cc d.3 in
    let t : d.1 ≡ q = cc d.3 in
    let v = byte-value s at b.0 b.1 (guard-value name_byte at (byte s at) b.0 b.1 b.2).0 in
    let r = chars-value s n b.1 d.0 d.1 d.2 in
    let p : b.1 ≡ suc at = omega (arith, v.to) in
    let i : d.1 ≤ length s = r.inside (omega arith) in
    record { is = sym g ∙ ap (λ (h : ℕ). h ∷ d.0) v.is ∙ ap (λ (l : List ℕ). get_or s at 0 ∷ l) (r.is ∙ ap (λ (k : ℕ). take n (drop k s)) p) ∙ sym (ap (take (suc n)) (drop-cons s at 0 v.inside)); to = omega (arith, r.to, v.to); inside = λ h. omega arith }

pub name-value : (s : List ℕ) (at : ℕ) (x : List ℕ) (q : ℕ) → name s at ≡ value x q → NameAt s at x q
unfolding name size raw_name
name-value s at x q e =
    let b = bind-value (size s at) _ x q e in
    let v = byte-value s at b.0 b.1 (guard-value (λ n. ltb 0 n) at (byte s at) b.0 b.1 b.2).0 in
    let r = chars-value s b.0 b.1 x q b.3 in
    let i : q ≤ length s = r.inside (omega (arith, v.to, v.inside)) in
    record { is = r.is ∙ ap (λ (k : ℕ). take k (drop b.1 s)) v.is ∙ ap (λ (k : ℕ). take (get_or s at 0) (drop k s)) v.to; to = omega (arith, r.to, v.to, v.is); inside = i }

-- the next name of the section
pub names-repeated : (s : List ℕ) (t : List (List ℕ)) (k at : ℕ) (x : List ℕ) (q : ℕ) → 0 < k → name s at ≡ value x q → member x t ≡ true → skip (names_after s t k at) ≡ Err (Illegal at)
unfolding names_after bind guard skip
names-repeated s t zero at x q l e m = absurd (omega arith)
names-repeated s t (suc k) at x q l e m = rw (e, m)

pub names-went : (s : List ℕ) (t : List (List ℕ)) (k at : ℕ) (x : List ℕ) (q : ℕ) → 0 < k → name s at ≡ value x q → member x t ≡ false → skip (names_after s t k at) ≡ skip (names_after s (t ++ x ∷ []) (k - 1) q)
unfolding names_after bind guard
names-went s t zero at x q l e m = absurd (omega arith)
names-went s t (suc k) at x q l e m = let h : suc k - 1 ≡ k = omega arith in rw (e, m, h)

pub names-done : (s : List ℕ) (t : List (List ℕ)) (k at : ℕ) → k ≤ 0 → skip (names_after s t k at) ≡ Ok at
unfolding names_after skip
names-done s t zero at l = refl
names-done s t (suc k) at l = absurd (omega arith)

pub names-stopped : (s : List ℕ) (t : List (List ℕ)) (k at : ℕ) (e : Stop) → 0 < k → Err e ≡ skip (name s at) → Err e ≡ skip (names_after s t k at)
unfolding names_after bind guard skip
names-stopped s t zero at e l h = absurd (omega arith)
names-stopped s t (suc k) at e l h = go (name s at) h
  where
    go : (a : Answer (List ℕ)) → Err e ≡ skip a → Err e ≡ skip (bind (guard (λ x. not (member x t)) at a) (λ x p. names_after s (t ++ x ∷ []) k p))
    go (value x q) h = cc
    go early h = h
    go (illegal o) h = h
    go (deep o) h = h

-- the loop's invariant: n names of the section have been read, and stand inside
pub record NamesRead (s : List ℕ) (count q n p : ℕ) : Type 0 where
  pub few : n ≤ count
  pub inside : Inside s n q
  pub here : raw_end s n q ≡ p
  pub same : skip (names_after s (raw_names s n q) (count - n) p) ≡ skip (names_after s [] count q)

pub reading-none : (s : List ℕ) (count q : ℕ) → NamesRead s count q 0 q
unfolding Inside raw_end raw_names
reading-none s count q = let e : count - 0 ≡ count = omega arith in record { few = omega arith; inside = tt; here = refl; same = rw e }

pub reading-more : (s : List ℕ) (count q n p : ℕ) (x : List ℕ) (to : ℕ) (b : Bool) → NamesRead s count q n p → n < count → name s p ≡ value x to → b ≡ one_of s p n q → b ≡ false → NamesRead s count q (n + 1) to
unfolding one_of
reading-more s count q n p x to b r l e f g =
    let v = name-value s p x to e in
    let m : member x (raw_names s n q) ≡ false = ap (λ (y : List ℕ). member y (raw_names s n q)) v.is ∙ sym f ∙ g in
    let u : count - n - 1 ≡ count - (n + 1) = omega arith in
    let i : raw_end s n q + 1 + get_or s (raw_end s n q) 0 ≤ length s = rw r.here (omega (arith, v.to, v.inside)) in
    let w : raw_names s (n + 1) q ≡ raw_names s n q ++ x ∷ [] = ap (λ (k : ℕ). raw_names s k q) (add-one n) ∙ raw_names-more s n q ∙ ap (λ (k : ℕ). raw_names s n q ++ raw_name s k ∷ []) r.here ∙ ap (λ (y : List ℕ). raw_names s n q ++ y ∷ []) (sym v.is) in
    record { few = omega arith; inside = rw add-one (Inside-more s n q r.inside i); here = rw add-one (raw_end-more s n q ∙ ap (λ (k : ℕ). k + 1 + get_or s k 0) r.here ∙ sym v.to); same = ap (λ (t : List (List ℕ)). skip (names_after s t (count - (n + 1)) to)) w ∙ ap (λ (k : ℕ). skip (names_after s (raw_names s n q ++ x ∷ []) k to)) (sym u) ∙ sym (names-went s (raw_names s n q) (count - n) p x to (omega arith) e m) ∙ r.same }

pub reading-repeated : (s : List ℕ) (count q n p : ℕ) (x : List ℕ) (to : ℕ) (b : Bool) → NamesRead s count q n p → n < count → name s p ≡ value x to → b ≡ one_of s p n q → b ≡ true → Err (Illegal p) ≡ skip (names_after s [] count q)
unfolding one_of
reading-repeated s count q n p x to b r l e f g =
    let v = name-value s p x to e in
    let m : member x (raw_names s n q) ≡ true = ap (λ (y : List ℕ). member y (raw_names s n q)) v.is ∙ sym f ∙ g in
    sym (names-repeated s (raw_names s n q) (count - n) p x to (omega arith) e m) ∙ r.same

pub reading-done : (s : List ℕ) (count q n p : ℕ) → NamesRead s count q n p → count ≤ n → Ok p ≡ skip (names_after s [] count q)
reading-done s count q n p r l = sym (names-done s (raw_names s n q) (count - n) p (omega arith)) ∙ r.same
