-- Laws for made names looked up, and that the short cut loses none.
use Prim.Native.Nat.{ℕ, zero, suc, ◌+◌, ◌<◌, ◌≤◌, min}
use native.Mathlib.Omega.{arith}
use mathlib.Core.List.{List, [], ◌∷◌}
use mathlib.Core.Bool.{Bool, true, false, cond, ◌||◌, ◌&&◌, not}
use mathlib.Core.Logic.{⊎_elim}
use mathlib.Core.Path.{◌≡◌, refl, sym, ap, ◌∙◌}
use lib.ListN.{length, take}
use Rattle.wire.specs.Writer.{st, state_of}
use Rattle.wire.specs.declared.writer.Writer.{Writer}
use Rattle.wire.proofs.Writers.{lt-or-le, take_part}
use Rattle.pack_rules.specs.Names.{Name, eq_name}
use Rattle.pack_rules.specs.Forms.{name_at}
use Rattle.pack_rules.specs.Legal.{place}
use Rattle.pack.proofs.Tables.{name-at-place}
use Rattle.machines.specs.Layout.{slice_of}
use Rattle.machines.specs.EmitAt.{pack_name}
use Rattle.activation_rules.specs.MadeNames.{act_prefix}
use Rattle.activations.specs.Places.{any_t}
use Rattle.activations.specs.Lookups.{MadeIs, is_made, made_at, place_built, some_made_t}
use Rattle.machines.proofs.Refused.{eq_name-turn}
use Rattle.std.specs.List.{list_any, range_with_len, starts_with}
use Rattle.std.specs.Cmp.Lexicographic.{pointwise}
use lib.Dec.{eqb}
use Rattle.std.proofs.Common.{add-one}
use native.Mathlib.Nat.{zero-add}

off : (b : Bool) → not b ≡ true → b ≡ false
off true e = sym e
off false e = refl

on : (b : Bool) → not b ≡ false → b ≡ true
on true e = refl
on false e = sym e

module _ (t : Name → ℕ) (names : ℕ) (made : Bool) (buf : List ℕ) (w : Writer) where
  pub built-full : not w.full ≡ false → names ≡ place_built t names made (state_of buf [] w)
  unfolding place_built state_of
  built-full e = let f = on w.full e in rw f

  pub built-none : not w.full ≡ true → made ≡ false → names ≡ place_built t names made (state_of buf [] w)
  unfolding place_built state_of
  built-none e f = let g = off w.full e in rw (g, f)

  pub built-part : (e r : ℕ) → not w.full ≡ true → made ≡ true → e ≡ min w.at (length buf) → r ≡ t (take e buf) → r ≡ place_built t names made (state_of buf [] w)
  unfolding place_built state_of
  built-part e r f g h i = let k = off w.full f in rw (k, g) (i ∙ ap t (take_part buf w.at e h))

-- what the library's comparison of two slices says of names
same-is : (a b : List ℕ) → pointwise eqb a b ≡ eq_name a b
unfolding eq_name
same-is [] [] = refl
same-is [] (y ∷ ys) = refl
same-is (x ∷ xs) [] = refl
same-is (x ∷ xs) (y ∷ ys) = ap (λ (t : Bool). eqb x y && t) (same-is xs ys)

pub made_is : (s offsets : List ℕ) (k : ℕ) (x : List ℕ) (r : Bool) → x ≡ pack_name s offsets k → r ≡ starts_with eqb x act_prefix → r ≡ made_at s offsets k
unfolding made_at is_made act_prefix slice_of
made_is s offsets k x r e f =
    f ∙ same-is act_prefix (take 6 x) ∙ eq_name-turn act_prefix (take 6 x) ∙ ap (λ z. eq_name (take 6 z) act_prefix) e

-- one of the first n, as an iterator finds it
any-range : (f : ℕ → Bool) (k n : ℕ) → list_any f (range_with_len k n) ≡ any_t f suc n k
unfolding any_t
any-range f k zero = refl
any-range f k (suc n) = ap (λ z. f k || list_any f (range_with_len z n)) (add-one k) ∙ ap (λ z. f k || z) (any-range f (suc k) n)

pub some_made_is : (s offsets : List ℕ) (n : ℕ) (r : Bool) → r ≡ list_any (made_at s offsets) (range_with_len 0 n) → r ≡ some_made_t s offsets n
unfolding some_made_t
some_made_is s offsets n r e = e ∙ any-range (made_at s offsets) 0 n

-- none from k on
none_from : (f : ℕ → Bool) (n k : ℕ) → any_t f suc n k ≡ false → (i : ℕ) → k ≤ i → i < k + n → f i ≡ false
unfolding any_t
none_from f zero k e i l h = absurd (omega arith)
none_from f (suc n) k e i l h = ⊎_elim (λ g. none_from f n (suc k) (rest (f k) refl e) i g (omega arith)) (λ g. let d : k ≡ i = omega arith in ap f (sym d) ∙ first (f k) refl e) (lt-or-le k i)
  where
    first : (b : Bool) → f k ≡ b → b || any_t f suc n (suc k) ≡ false → b ≡ false
    first true d a = a
    first false d a = refl

    rest : (b : Bool) → f k ≡ b → b || any_t f suc n (suc k) ≡ false → any_t f suc n (suc k) ≡ false
    rest true d a = absurd (let z : ◌≡◌ {A = ℕ} 0 1 = ap (λ y. cond y 1 0) (sym a) in omega arith)
    rest false d a = a

-- what the search over all says is known of the names
pub some-made-is : (ns : List Name) (s offsets : List ℕ) → ((k : ℕ) → k < length ns → pack_name s offsets k ≡ name_at ns k) → MadeIs ns (some_made_t s offsets (length ns))
unfolding MadeIs some_made_t made_at
some-made-is ns s offsets named e k l = ap is_made (sym (named k l)) ∙ none_from (made_at s offsets) (length ns) 0 e k (omega arith) (omega arith)

-- no place is past the number of names
pub place-most : (ns : List Name) (n : Name) → place ns n ≤ length ns
unfolding place
place-most [] n = omega arith
place-most (m ∷ ms) n = go (eq_name m n) (place-most ms n)
  where
    go : (b : Bool) → place ms n ≤ length ms → cond b 0 (suc (place ms n)) ≤ suc (length ms)
    go true h = omega arith
    go false h = omega arith

-- THE LAW: a made name is found where it stands, or nowhere
pub made-place : (ns : List Name) (made : Bool) (co cm : ℕ) (n : Name) (md : List ℕ) → MadeIs ns made → is_made n ≡ true → place_built (place ns) (length ns) made (st co cm n md) ≡ place ns n
unfolding place_built MadeIs
made-place ns true co cm n md m e = refl
made-place ns false co cm n md m e = ⊎_elim (λ h. absurd (known h)) (λ h. let l = place-most ns n in omega arith) (lt-or-le (place ns n) (length ns))
  where
    known : place ns n < length ns → ⊥
    known h = let z : ◌≡◌ {A = ℕ} 0 1 = ap (λ b. cond b 1 0) (sym (m refl (place ns n) h)) ∙ ap (λ y. cond (is_made y) 1 0) (name-at-place ns n h) ∙ ap (λ b. cond b 1 0) e in omega arith
