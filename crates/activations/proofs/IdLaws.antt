-- Laws of names by number: equal numbers, equal names.
use Prim.Native.Nat.{ℕ, ◌+◌, ◌-◌, ◌<◌, ◌≤◌}
use native.Mathlib.Omega.{arith}
use mathlib.Core.List.{List, [], ◌∷◌, ◌++◌}
use mathlib.Core.Bool.{Bool, true, false}
use mathlib.Core.Logic.{⊎_elim}
use mathlib.Core.Path.{◌≡◌, refl, sym, ap, ◌∙◌}
use lib.ListN.{length, get_or}
use lib.Dec.{eqb}
use borrow.Author.Tests.{eqb-false, eqb-true, le-ltb, lt-ltb, ne_eqb}
use Rattle.wire.proofs.Writers.{lt-or-le}
use Rattle.pack_rules.specs.Names.{Name, eq_name}
use Rattle.pack_rules.specs.Forms.{name_at}
use Rattle.pack_rules.specs.Legal.{Fresh, place}
use Rattle.pack.proofs.Tables.{eq_name-ne, eq_name-refl, name-at-place, place-at-name}
use Rattle.activation_rules.specs.MadeNames.{Scope, act_prefix, last_infix, last_var, made_name, sample_var, tag}
use Rattle.activations.specs.Ids.{IsId, held_id, holder_id, name_of, old_id, old_or, sample_id}

-- what follows the first
unfoldable rest_of : List ℕ → List ℕ
rest_of [] = []
rest_of (x ∷ xs) = xs

-- what follows the same
pub after_same : (a x y : List ℕ) → a ++ x ≡ a ++ y → x ≡ y
unfolding rest_of
after_same [] x y e = e
after_same (z ∷ a) x y e = after_same a x y (ap rest_of e)

-- holders of one activation have one name only where their variables have
pub last-same : (a v w : Name) → last_var a v ≡ last_var a w → v ≡ w
unfolding last_var
last-same a v w e = after_same last_infix v w (after_same a (last_infix ++ v) (last_infix ++ w) (after_same act_prefix (a ++ (last_infix ++ v)) (a ++ (last_infix ++ w)) e))

-- a sample's name is no holder's
pub sample-last : (a : Name) (s : Scope) (x v : Name) → sample_var a s x ≡ last_var a v → ⊥
unfolding sample_var made_name last_var last_infix
sample-last a s x v e =
    let f = after_same a (95 ∷ 115 ∷ (tag s ++ (95 ∷ x))) (last_infix ++ v) (after_same act_prefix (a ++ (95 ∷ 115 ∷ (tag s ++ (95 ∷ x)))) (a ++ (last_infix ++ v)) e) in
    let g : ◌≡◌ {A = ℕ} 115 108 = ap (λ l. get_or l 1 0) f in
    omega arith

pub old-or-old : (n i x : ℕ) → i < n → old_or n i x ≡ i
unfolding old_or
old-or-old n i x h = rw (lt-ltb i n h)

pub old-or-other : (n i x : ℕ) → n ≤ i → old_or n i x ≡ x
unfolding old_or
old-or-other n i x h = rw (le-ltb i n h)

module _ (ns : List Name) (a : Name) where
  pub name-of-old : (x : ℕ) → x < length ns → name_of ns a x ≡ name_at ns x
  unfolding name_of
  name-of-old x h = rw (lt-ltb x (length ns) h)

  name-of-more : (v : ℕ) → name_of ns a (length ns + v) ≡ last_var a (name_at ns v)
  unfolding name_of
  name-of-more v =
      let i : length ns + v - length ns ≡ v = omega arith in
      rw (le-ltb (length ns + v) (length ns) (omega arith)) (ap (λ y. last_var a (name_at ns y)) i)

  -- a holder's number where its name is an old one, and where it is none
  pub holder-old : (v : ℕ) → place ns (last_var a (name_at ns v)) < length ns → holder_id ns a v ≡ place ns (last_var a (name_at ns v))
  unfolding holder_id
  holder-old v h = old-or-old (length ns) (place ns (last_var a (name_at ns v))) (length ns + v) h

  pub holder-new : (v : ℕ) → length ns ≤ place ns (last_var a (name_at ns v)) → holder_id ns a v ≡ length ns + v
  unfolding holder_id
  holder-new v h = old-or-other (length ns) (place ns (last_var a (name_at ns v))) (length ns + v) h

  -- THE LAW: the name of a holder's number
  pub name-of-holder : (v : ℕ) → name_of ns a (holder_id ns a v) ≡ last_var a (name_at ns v)
  name-of-holder v = ⊎_elim
      (λ h. ap (name_of ns a) (holder-old v h) ∙ name-of-old (place ns (last_var a (name_at ns v))) h ∙ name-at-place ns (last_var a (name_at ns v)) h)
      (λ h. ap (name_of ns a) (holder-new v h) ∙ name-of-more v)
      (lt-or-le (place ns (last_var a (name_at ns v))) (length ns))

  pub holder-below : (v : ℕ) → v < length ns → holder_id ns a v < length ns + length ns
  holder-below v h = ⊎_elim
      (λ g. let e = holder-old v g in omega arith)
      (λ g. let e = holder-new v g in omega arith)
      (lt-or-le (place ns (last_var a (name_at ns v))) (length ns))

  pub id_below : (x : ℕ) → IsId ns a x → x < length ns + length ns
  id_below x (old_id h) = omega arith
  id_below x (held_id v h e) = let g = holder-below v h in omega arith

  -- a number that has the name of an old one is that one's
  old-only : Fresh [] ns → (x v : ℕ) → x < length ns → name_at ns x ≡ last_var a (name_at ns v) → x ≡ holder_id ns a v
  old-only fresh x v h e =
      let p : place ns (last_var a (name_at ns v)) ≡ x = ap (place ns) (sym e) ∙ place-at-name ns x fresh h in
      sym (holder-old v (omega arith) ∙ p)

  -- THE LAW: numbers are equal where the names are
  pub ids-one : Fresh [] ns → (x y : ℕ) → IsId ns a x → IsId ns a y → name_of ns a x ≡ name_of ns a y → x ≡ y
  ids-one fresh x y (old_id h) (old_id k) e =
      sym (place-at-name ns x fresh h) ∙ ap (place ns) (sym (name-of-old x h) ∙ e ∙ name-of-old y k) ∙ place-at-name ns y fresh k
  ids-one fresh x y (old_id h) (held_id w k f) e =
      old-only fresh x w h (sym (name-of-old x h) ∙ e ∙ ap (name_of ns a) f ∙ name-of-holder w) ∙ sym f
  ids-one fresh x y (held_id v h f) (old_id k) e =
      f ∙ sym (old-only fresh y v k (sym (name-of-old y k) ∙ sym e ∙ ap (name_of ns a) f ∙ name-of-holder v))
  ids-one fresh x y (held_id v h f) (held_id w k g) e =
      let i = last-same a (name_at ns v) (name_at ns w) (sym (name-of-holder v) ∙ ap (name_of ns a) (sym f) ∙ e ∙ ap (name_of ns a) g ∙ name-of-holder w) in
      let j : v ≡ w = sym (place-at-name ns v fresh h) ∙ ap (place ns) i ∙ place-at-name ns w fresh k in
      f ∙ ap (holder_id ns a) j ∙ sym g

  pub ids-tell : Fresh [] ns → (x y : ℕ) → IsId ns a x → IsId ns a y → eqb x y ≡ eq_name (name_of ns a x) (name_of ns a y)
  ids-tell fresh x y i j = go (eqb x y) refl
    where
      go : (b : Bool) → eqb x y ≡ b → b ≡ eq_name (name_of ns a x) (name_of ns a y)
      go true e = sym (ap (λ z. eq_name (name_of ns a x) (name_of ns a z)) (sym (eqb-true x y e)) ∙ eq_name-refl (name_of ns a x))
      go false e = sym (eq_name-ne (name_of ns a x) (name_of ns a y) (λ g. eqb-false x y e (ids-one fresh x y i j g)))

  -- the sample of x: an old name's number, or one that no name has
  pub sample-old : (s : Scope) (x : ℕ) → place ns (sample_var a s (name_of ns a x)) < length ns → sample_id ns a s x ≡ place ns (sample_var a s (name_of ns a x))
  unfolding sample_id
  sample-old s x h = old-or-old (length ns) (place ns (sample_var a s (name_of ns a x))) (length ns + length ns) h

  pub sample-new : (s : Scope) (x : ℕ) → length ns ≤ place ns (sample_var a s (name_of ns a x)) → sample_id ns a s x ≡ length ns + length ns
  unfolding sample_id
  sample-new s x h = old-or-other (length ns) (place ns (sample_var a s (name_of ns a x))) (length ns + length ns) h

  -- no number has the name of a sample that is no old name
  no-sample : Fresh [] ns → (s : Scope) (x y : ℕ) → IsId ns a y → length ns ≤ place ns (sample_var a s (name_of ns a x)) → name_of ns a y ≡ sample_var a s (name_of ns a x) → ⊥
  no-sample fresh s x y (old_id h) l e =
      let p : place ns (sample_var a s (name_of ns a x)) ≡ y = ap (place ns) (sym e ∙ name-of-old y h) ∙ place-at-name ns y fresh h in
      omega arith
  no-sample fresh s x y (held_id v h f) l e = sample-last a s (name_of ns a x) (name_at ns v) (sym e ∙ ap (name_of ns a) f ∙ name-of-holder v)

  -- THE LAW: a number is a sample's where its name is
  pub sample-tells : Fresh [] ns → (s : Scope) (x y : ℕ) → IsId ns a y → eqb y (sample_id ns a s x) ≡ eq_name (name_of ns a y) (sample_var a s (name_of ns a x))
  sample-tells fresh s x y i = ⊎_elim
      (λ h. ap (eqb y) (sample-old s x h)
      ∙ ids-tell fresh y (place ns (sample_var a s (name_of ns a x))) i (old_id h)
      ∙ ap (eq_name (name_of ns a y)) (name-of-old (place ns (sample_var a s (name_of ns a x))) h ∙ name-at-place ns (sample_var a s (name_of ns a x)) h))
      (λ h. ap (eqb y) (sample-new s x h)
      ∙ ne_eqb y (length ns + length ns) (λ e. let g = id_below y i in omega arith)
      ∙ sym (eq_name-ne (name_of ns a y) (sample_var a s (name_of ns a x)) (no-sample fresh s x y i h)))
      (lt-or-le (place ns (sample_var a s (name_of ns a x))) (length ns))
