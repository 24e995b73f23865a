-- Laws of the entry of a refused machine.
use Prim.Native.Nat.{ℕ, ◌+◌, ◌*◌, ◌<◌, ◌≤◌, ◌%◌}
use native.Mathlib.Nat.{mod-eq_of_lt}
use native.Mathlib.Omega.{arith}
use mathlib.Core.List.{List, [], ◌∷◌, ◌++◌, append_assoc, append-nil}
use mathlib.Core.Bool.{Bool, true, false}
use mathlib.Core.Path.{◌≡◌, refl, sym, ap, ◌∙◌}
use lib.ListN.{length, get_or, drop, length-append, length-drop, length-take}
use lib.Dec.{eqb}
use borrow.Author.Tests.{eq-eqb, ne_eqb, eqb-true, eqb-false}
use Rattle.wire.specs.Lists.{All}
use Rattle.pack_rules.specs.Names.{Name}
use Rattle.wire.specs.Writer.{overwritten}
use Rattle.pack.specs.RawNames.{raw_name}
use Rattle.pack_rules.specs.Report.{entries}
use Rattle.pack_rules.specs.Write.{enc}
use Rattle.machines.specs.declared.verdicts.NameRef.{NameRef}
use Rattle.machines.specs.declared.verdicts.VerdictRow.{VerdictRow}
use Rattle.machines.specs.Layout.{prefix_of, slice_of}
use Rattle.machines.specs.EmitAt.{pack_name}
use Rattle.machines.specs.ReportEntries.{called_of, entry_bytes, name_bytes, names_bytes, names_of}
use Rattle.machines.proofs.Overwriting.{over-as, over-then}

-- the prefix, by whether there is one
pub no-prefix : (p : Name) → length p ≡ 0 → p ≡ prefix_of p
unfolding prefix_of
no-prefix [] h = refl
no-prefix (x ∷ xs) h = absurd (omega arith)

pub a-prefix : (p : Name) → (length p ≡ 0 → ⊥) → p ++ (95 ∷ []) ≡ prefix_of p
unfolding prefix_of
a-prefix [] h = absurd (h refl)
a-prefix (x ∷ xs) h = refl

pub no-prefix-length : (p : Name) → length p ≡ 0 → 0 ≡ length (prefix_of p)
no-prefix-length p h = sym h ∙ ap length (no-prefix p h)

pub prefix-length : (p : Name) → (length p ≡ 0 → ⊥) → length p + 1 ≡ length (prefix_of p)
prefix-length p h = sym (length-append p (95 ∷ [])) ∙ ap length (a-prefix p h)

pub prefix-longer : (p : Name) → length p ≤ length (prefix_of p)
unfolding prefix_of
prefix-longer [] = omega arith
prefix-longer (x ∷ xs) = omega (arith, length-append (x ∷ xs) (95 ∷ []))

prefix-most : (p : Name) → length (prefix_of p) ≤ length p + 1
unfolding prefix_of
prefix-most [] = omega arith
prefix-most (x ∷ xs) = omega (arith, length-append (x ∷ xs) (95 ∷ []))

-- parts of what is lent are no longer than it
slice-most : (l : List ℕ) (a n : ℕ) → length (slice_of l a n) ≤ length l
unfolding slice_of
slice-most l a n = omega (arith, length-take n (drop a l), length-drop a l)

part-most : (l x : List ℕ) (a n : ℕ) → x ≡ slice_of l a n → length x ≤ length l
part-most l x a n e = rw e (slice-most l a n)

pub own-most : (s offsets x : List ℕ) (i : ℕ) → x ≡ pack_name s offsets i → length x ≤ length s
unfolding pack_name raw_name
own-most s offsets x i e = rw e (omega (arith, length-take (get_or s (get_or offsets i 0) 0) (drop (get_or offsets i 0 + 1) s), length-drop (get_or offsets i 0 + 1) s))

pub prefix-fits : (l p : List ℕ) (a n k : ℕ) → p ≡ slice_of l a n → k ≡ length (prefix_of p) → k ≤ length l + 1
prefix-fits l p a n k e f = omega (arith, prefix-most p, part-most l p a n e)

-- a name after its length byte
pub name-length : (n : Name) → length (name_bytes n) ≡ 1 + length n
unfolding name_bytes
name-length n = omega arith

pub name-put : (d e f n : List ℕ) (at b : ℕ) → at ≤ length d → b ≡ at + 1 → e ≡ overwritten at (length n % 256 ∷ []) d → f ≡ overwritten b n e → f ≡ overwritten at (name_bytes n) d
unfolding name_bytes
name-put d e f n at b = over-then d e f (length n % 256 ∷ []) n at b

-- the same of a name inside a state
pub inside-length : (p n : Name) → length (name_bytes (prefix_of p ++ n)) ≡ 1 + length (prefix_of p) + length n
inside-length p n = omega (arith, name-length (prefix_of p ++ n), length-append (prefix_of p) n)

pub inside-put : (d e f g p n : List ℕ) (at b c k : ℕ) → at ≤ length d → k ≡ length (prefix_of p)
    → b ≡ at + 1 → e ≡ overwritten at ((k + length n) % 256 ∷ []) d → c ≡ b + length (prefix_of p) → f ≡ overwritten b (prefix_of p) e → g ≡ overwritten c n f
    → g ≡ overwritten at (name_bytes (prefix_of p ++ n)) d
unfolding name_bytes
inside-put d e f g p n at b c k h l u x v y z =
    let o = (k + length n) % 256 ∷ [] in
    let a = over-then d e f o (prefix_of p) at b h u x y in
    let i : c ≡ at + length (o ++ prefix_of p) = omega (arith, length-append o (prefix_of p)) in
    let m : k + length n ≡ length (prefix_of p ++ n) = omega (arith, length-append (prefix_of p) n) in
    over-as d g _ _ at (over-then d f g (o ++ prefix_of p) n at c h i a z) (ap (λ (q : ℕ). (q % 256) ∷ (prefix_of p ++ n)) (sym m))

-- names one after the other
names-append : (xs ys : List Name) → names_bytes (xs ++ ys) ≡ names_bytes xs ++ names_bytes ys
unfolding names_bytes
names-append [] ys = refl
names-append (x ∷ xs) ys = ap (λ (r : List ℕ). name_bytes x ++ r) (names-append xs ys) ∙ sym (append_assoc (name_bytes x) (names_bytes xs) (names_bytes ys))

one_name : (n : Name) → names_bytes (n ∷ []) ≡ name_bytes n
unfolding names_bytes
one_name n = append-nil (name_bytes n)

names-are : (ns : List Name) → All (λ (n : Name). length n < 256) ns → names_bytes ns ≡ enc ns
unfolding names_bytes name_bytes enc All
names-are [] h = refl
names-are (n ∷ ns) h = λ i. mod-eq_of_lt h.0 i ∷ (n ++ names-are ns h.1 i)

parts-length : (a b c d : List ℕ) → length (a ++ b ++ c ++ d) ≡ length a + length b + length c + length d
parts-length a b c d = omega (arith, length-append (a ++ b ++ c) d, length-append (a ++ b) c, length-append a b)

module _ (s offsets qualified : List ℕ) where
  -- a name, by its three cases
  pub called-none : (c : NameRef) → c.name ≡ 65535 → c.letters ≡ 0 → names_bytes (called_of s offsets qualified c) ≡ []
  unfolding called_of names_bytes
  called-none c e f = rw (eq-eqb _ _ e, eq-eqb _ _ f)

  pub called-letters : (c : NameRef) (p : Name) → c.name ≡ 65535 → (c.letters ≡ 0 → ⊥) → p ≡ slice_of qualified c.letter c.letters
      → names_bytes (called_of s offsets qualified c) ≡ name_bytes p
  unfolding called_of
  called-letters c p e f g = rw (eq-eqb _ _ e, ne_eqb _ _ f, ← g) (one_name p)

  pub called-inside : (c : NameRef) (p n : Name) → (c.name ≡ 65535 → ⊥) → p ≡ slice_of qualified c.letter c.letters → n ≡ pack_name s offsets c.name
      → names_bytes (called_of s offsets qualified c) ≡ name_bytes (prefix_of p ++ n)
  unfolding called_of
  called-inside c p n e g h = rw (ne_eqb _ _ e, ← g, ← h) (one_name (prefix_of p ++ n))

  -- and how long it is
  pub length_none : (c : NameRef) → c.name ≡ 65535 → c.letters ≡ 0 → 0 ≡ length (names_bytes (called_of s offsets qualified c))
  length_none c e f = sym (ap length (called-none c e f))

  pub length-letters : (c : NameRef) (p : Name) → c.name ≡ 65535 → (c.letters ≡ 0 → ⊥) → p ≡ slice_of qualified c.letter c.letters
      → 1 + length p ≡ length (names_bytes (called_of s offsets qualified c))
  length-letters c p e f g = sym (ap length (called-letters c p e f g) ∙ name-length p)

  pub length-inside : (c : NameRef) (p n : Name) (k : ℕ) → (c.name ≡ 65535 → ⊥) → p ≡ slice_of qualified c.letter c.letters → n ≡ pack_name s offsets c.name → k ≡ length (prefix_of p)
      → 1 + k + length n ≡ length (names_bytes (called_of s offsets qualified c))
  length-inside c p n k e g h o = ap (λ (i : ℕ). 1 + i + length n) o ∙ sym (ap length (called-inside c p n e g h) ∙ inside-length p n)

  -- it is no longer than the pack and the letters, with `_` and a length byte
  called-most : (c : NameRef) → length (names_bytes (called_of s offsets qualified c)) ≤ 2 + length qualified + length s
  called-most c = go (slice_of qualified c.letter c.letters) (pack_name s offsets c.name) refl refl (eqb c.name 65535) refl (eqb c.letters 0) refl
    where
      go : (p n : Name) → p ≡ slice_of qualified c.letter c.letters → n ≡ pack_name s offsets c.name
          → (a : Bool) → eqb c.name 65535 ≡ a → (b : Bool) → eqb c.letters 0 ≡ b → length (names_bytes (called_of s offsets qualified c)) ≤ 2 + length qualified + length s
      go p n g h true e true f = rw (called-none c (eqb-true _ _ e) (eqb-true _ _ f)) (omega arith)
      go p n g h true e false f = rw (called-letters c p (eqb-true _ _ e) (eqb-false _ _ f) g) (omega (arith, name-length p, part-most qualified p c.letter c.letters g))
      go p n g h false e b f = rw (called-inside c p n (eqb-false _ _ e) g h) (omega (arith, inside-length p n, prefix-most p, part-most qualified p c.letter c.letters g, own-most s offsets n c.name h))

  pub called-fits : (c : NameRef) (k : ℕ) → k ≡ length (names_bytes (called_of s offsets qualified c)) → k ≤ 2 + length qualified + length s
  called-fits c k e = rw e (called-most c)

  -- an entry in the order in which it is written
  entry-parts : (m : ℕ) (j : VerdictRow) (n : Name) → n ≡ pack_name s offsets m
      → entry_bytes s offsets qualified m j ≡ (j.kind % 256 ∷ []) ++ name_bytes n ++ names_bytes (called_of s offsets qualified j.second) ++ names_bytes (called_of s offsets qualified j.third)
  unfolding entry_bytes names_of names_bytes
  entry-parts m j n e =
      let k = j.kind % 256 in
      let own = pack_name s offsets m in
      let b = called_of s offsets qualified j.second in
      let c = called_of s offsets qualified j.third in
      ap (λ (r : List ℕ). k ∷ r) (ap (λ (r : List ℕ). name_bytes own ++ r) (names-append b c) ∙ sym (append_assoc (name_bytes own) (names_bytes b) (names_bytes c))) ∙ ap (λ (x : Name). (k ∷ []) ++ name_bytes x ++ names_bytes b ++ names_bytes c) (sym e)

  pub entry_length : (m : ℕ) (j : VerdictRow) (n : Name) → n ≡ pack_name s offsets m
      → length (entry_bytes s offsets qualified m j) ≡ 2 + length n + length (names_bytes (called_of s offsets qualified j.second)) + length (names_bytes (called_of s offsets qualified j.third))
  entry_length m j n e =
      let b = names_bytes (called_of s offsets qualified j.second) in
      let c = names_bytes (called_of s offsets qualified j.third) in
      ap length (entry-parts m j n e) ∙ omega (arith, parts-length (j.kind % 256 ∷ []) (name_bytes n) b c, name-length n)

  -- it has the own name and two more
  pub entry-most : (m : ℕ) (j : VerdictRow) (k : ℕ) → k ≡ length (entry_bytes s offsets qualified m j) → k ≤ 6 + 2 * length qualified + 3 * length s
  entry-most m j k e =
      let x = entry_length m j _ refl in
      let y = own-most s offsets _ m refl in
      let u = called-fits j.second _ refl in
      let v = called-fits j.third _ refl in
      omega arith

  pub entry-counted : (m : ℕ) (j : VerdictRow) (n : Name) (a b : ℕ) → n ≡ pack_name s offsets m
      → a ≡ length (names_bytes (called_of s offsets qualified j.second)) → b ≡ length (names_bytes (called_of s offsets qualified j.third))
      → 2 + length n + a + b ≡ length (entry_bytes s offsets qualified m j)
  entry-counted m j n a b e f g = (λ i. 2 + length n + f i + g i) ∙ sym (entry_length m j n e)

  pub entry-put : (m : ℕ) (j : VerdictRow) (d e f g h n : List ℕ) (at x y z : ℕ) → n ≡ pack_name s offsets m → at ≤ length d
      → x ≡ at + 1 → e ≡ overwritten at (j.kind % 256 ∷ []) d
      → y ≡ x + length (name_bytes n) → f ≡ overwritten x (name_bytes n) e
      → z ≡ y + length (names_bytes (called_of s offsets qualified j.second)) → g ≡ overwritten y (names_bytes (called_of s offsets qualified j.second)) f
      → h ≡ overwritten z (names_bytes (called_of s offsets qualified j.third)) g
      → h ≡ overwritten at (entry_bytes s offsets qualified m j) d
  entry-put m j d e f g h n at x y z o l p1 q1 p2 q2 p3 q3 q4 =
      let k = j.kind % 256 ∷ [] in
      let b = names_bytes (called_of s offsets qualified j.second) in
      let c = names_bytes (called_of s offsets qualified j.third) in
      let i : y ≡ at + length (k ++ name_bytes n) = omega (arith, length-append k (name_bytes n)) in
      let v : z ≡ at + length (k ++ name_bytes n ++ b) = omega (arith, length-append (k ++ name_bytes n) b) in
      let u2 = over-then d e f k (name_bytes n) at x l p1 q1 q2 in
      let u3 = over-then d f g (k ++ name_bytes n) b at y l i u2 q3 in
      over-as d h _ _ at (over-then d g h (k ++ name_bytes n ++ b) c at z l v u3 q4) (entry-parts m j n o)

  -- where kind and lengths are bytes, it is the report's entry
  pub entry-is : (m : ℕ) (j : VerdictRow) → j.kind < 256 → All (λ (n : Name). length n < 256) (names_of s offsets qualified m j)
      → entry_bytes s offsets qualified m j ≡ entries (record { kind = j.kind; names = names_of s offsets qualified m j } ∷ [])
  unfolding entry_bytes entries
  entry-is m j h l = λ i. mod-eq_of_lt h i ∷ (names-are (names_of s offsets qualified m j) l ∙ sym (append-nil (enc (names_of s offsets qualified m j)))) i
