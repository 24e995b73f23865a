-- Names by number in a pack that was read: what the code writes and finds is what the definitions say.
use Prim.Native.Nat.{ℕ, suc, ◌+◌, ◌-◌, ◌<◌, ◌≤◌}
use native.Mathlib.Omega.{arith}
use mathlib.Core.List.{List, [], ◌∷◌}
use mathlib.Core.Bool.{Bool, true, false, cond}
use mathlib.Core.Logic.{⊎_elim}
use mathlib.Core.Path.{◌≡◌, refl, sym, ap, subst, ◌∙◌}
use lib.ListN.{length}
use lib.Dec.{eqb, leb, ltb}
use borrow.Author.Tests.{eq-eqb, eqb-false, eqb-true, le-leb, le-ltb, lt-leb, lt-ltb, ltb-true, ne_eqb}
use Rattle.wire.specs.Lists.{All, Bytes}
use Rattle.wire.specs.Writer.{State, full, puts, st}
use Rattle.wire.proofs.Writers.{lt-or-le, puts-fit}
use Rattle.pack_rules.specs.Names.{Name, eq_name}
use Rattle.pack_rules.specs.Forms.{name_at}
use Rattle.pack_rules.specs.Legal.{Fresh, LegalName, place}
use Rattle.pack_rules.specs.Write.{nm}
use Rattle.pack.specs.Table.{tabled}
use Rattle.pack.specs.Intern.{put_item, put_name, render}
use Rattle.pack.proofs.Tables.{eq_name-true}
use Rattle.machines.specs.Layout.{slice_of}
use Rattle.machines.specs.EmitAt.{pack_name}
use Rattle.machines.proofs.MachineEmitted.{numbered}
use Rattle.machines.proofs.Refused.{eq_name-turn}
use Rattle.activation_rules.specs.MadeNames.{Scope, act_prefix, last_var, made_name, sample_var}
use Rattle.activations.specs.Vars.{scope_at}
use Rattle.activations.specs.Lookups.{MadeIs, is_made, place_built}
use Rattle.activation_rules.specs.Samples.{renamed}
use Rattle.activations.specs.Ids.{IsId, name_of, names_of, old_or, sample_id}
use Rattle.activations.specs.NameIdsAt.{id_items, name_t, sample_name_t, sample_t}
use Rattle.activations.specs.OverSamplesAt.{chosen_items, renamed_from, renamed_t}
use Rattle.activations.proofs.LookupLaws.{made-place, place-most}
use Rattle.activations.proofs.PackInfoLaws.{place-tabled}
use Rattle.activations.proofs.IdLaws.{id_below, ids-tell, old-or-old, old-or-other, sample-new, sample-old, sample-tells}

-- a name that is an old one is no longer than those are
place_short : (ns : List Name) → All LegalName ns → (n : Name) → place ns n < length ns → length n < 256
unfolding place All
place_short [] a n h = absurd (omega arith)
place_short (m ∷ ms) a n h = go (eq_name m n) refl h (place_short ms a.1 n)
  where
    go : (b : Bool) → eq_name m n ≡ b → cond b 0 (suc (place ms n)) < suc (length ms) → (place ms n < length ms → length n < 256) → length n < 256
    go true e g r = subst (λ (x : Name). length x < 256) (eq_name-true m n e) a.0.1
    go false e g r = r (omega arith)

-- a made name that was put into a buffer of 255 bytes is found where it stands, or nowhere
pub built-place : (ns : List Name) → All LegalName ns → (made : Bool) → MadeIs ns made → (n : Name) → is_made n ≡ true → place_built (place ns) (length ns) made (puts n (st 255 0 [] [])) ≡ place ns n
unfolding place_built
built-place ns a made m n e = ap (place_built (place ns) (length ns) made) (puts-fit 255 0 [] n [] (omega arith)) ∙ ⊎_elim over fits (lt-or-le 255 (length n))
  where
    over : 255 < length n → place_built (place ns) (length ns) made (cond (leb (0 + length n) 255) (st 255 0 n []) full) ≡ place ns n
    over g =
        ap (λ (b : Bool). place_built (place ns) (length ns) made (cond b (st 255 0 n []) full)) (lt-leb (0 + length n) 255 (omega arith))
        ∙ ⊎_elim (λ h. absurd (let i = place_short ns a n h in omega arith)) (λ h. let i = place-most ns n in omega arith) (lt-or-le (place ns n) (length ns))

    fits : length n ≤ 255 → place_built (place ns) (length ns) made (cond (leb (0 + length n) 255) (st 255 0 n []) full) ≡ place ns n
    fits g = ap (λ (b : Bool). place_built (place ns) (length ns) made (cond b (st 255 0 n []) full)) (le-leb (0 + length n) 255 (omega arith)) ∙ made-place ns made 255 0 n [] m e

pub sample-made : (a : Name) (c : Scope) (v : Name) → is_made (sample_var a c v) ≡ true
unfolding is_made slice_of sample_var made_name act_prefix eq_name
sample-made a c v = refl

pub eqb-turns : (x y : ℕ) → eqb x y ≡ eqb y x
eqb-turns x y = go (eqb x y) refl
  where
    go : (b : Bool) → eqb x y ≡ b → b ≡ eqb y x
    go true e = sym (eq-eqb y x (sym (eqb-true x y e)))
    go false e = sym (ne_eqb y x (λ g. eqb-false x y e (sym g)))

-- by a Boolean that is computed
pub by_bool : (P : Bool → Type 0) (b : Bool) → (b ≡ true → P true) → (b ≡ false → P false) → P b
by_bool P true f g = f refl
by_bool P false f g = g refl

-- a pack that was read: its names, where they stand; an activation's name
module _ (ns : List Name) (fresh : Fresh [] ns) (legal : All LegalName ns) (few : length ns + length ns ≤ 65536) (s : List ℕ) (by : Bytes s)
    (offsets : List ℕ) (placed : (i : ℕ) → i < length ns → pack_name s offsets i ≡ name_at ns i) (a : Name) where
  pub name-is : (x : ℕ) → x < length ns + length ns → name_t s offsets (length ns) a x ≡ name_of ns a x
  unfolding name_t name_of
  name-is x h = go (ltb x (length ns)) refl
    where
      go : (b : Bool) → ltb x (length ns) ≡ b → cond b (pack_name s offsets x) (last_var a (pack_name s offsets (x - length ns))) ≡ cond b (name_at ns x) (last_var a (name_at ns (x - length ns)))
      go true e = placed x (ltb-true x (length ns) e)
      go false e = ap (last_var a) (placed (x - length ns) (omega arith))

  -- THE LAW: what is written of a number is its name
  pub id-written : (x : ℕ) → x < length ns + length ns → (z : State) → render (tabled ns) (id_items s offsets (length ns) a x) z ≡ put_name (tabled ns) (name_of ns a x) z
  unfolding id_items name_of render put_item
  id-written x h z = ⊎_elim
      (λ g. rw (lt-ltb x (length ns) g) (numbered ns fresh legal (omega arith) s by x g z))
      (λ g. rw (le-ltb x (length ns) g) (ap (λ (n : Name). put_name (tabled ns) (last_var a n) z) (placed (x - length ns) (omega arith))))
      (lt-or-le x (length ns))

  pub sample-named : (n k x : ℕ) → x < length ns + length ns → sample_name_t s offsets (length ns) a n k x ≡ sample_var a (scope_at n k) (name_of ns a x)
  unfolding sample_name_t
  sample-named n k x h = ap (sample_var a (scope_at n k)) (name-is x h)

  module _ (made : Bool) (M : MadeIs ns made) (n k : ℕ) where
    sample-at : (x : ℕ) → x < length ns + length ns → sample_t s offsets (length ns) a (tabled ns) made n k x ≡ old_or (length ns) (place ns (sample_var a (scope_at n k) (name_of ns a x))) 65536
    unfolding sample_t
    sample-at x h =
        ap (λ (t : Name → ℕ). old_or (length ns) (place_built t (length ns) made (puts (sample_name_t s offsets (length ns) a n k x) (st 255 0 [] []))) 65536) (place-tabled ns)
        ∙ ap (λ (i : Name). old_or (length ns) (place_built (place ns) (length ns) made (puts i (st 255 0 [] []))) 65536) (sample-named n k x h)
        ∙ ap (λ (i : ℕ). old_or (length ns) i 65536) (built-place ns legal made M (sample_var a (scope_at n k) (name_of ns a x)) (sample-made a (scope_at n k) (name_of ns a x)))

    -- a number is a sample's where its name is
    pub sample-found : (x y : ℕ) → x < length ns + length ns → IsId ns a y → eqb y (sample_t s offsets (length ns) a (tabled ns) made n k x) ≡ eq_name (name_of ns a y) (sample_var a (scope_at n k) (name_of ns a x))
    sample-found x y h i = ap (eqb y) (sample-at x h) ∙ same ∙ sample-tells ns a fresh (scope_at n k) x y i
      where
        same : eqb y (old_or (length ns) (place ns (sample_var a (scope_at n k) (name_of ns a x))) 65536) ≡ eqb y (sample_id ns a (scope_at n k) x)
        same = ⊎_elim
            (λ g. ap (eqb y) (old-or-old (length ns) (place ns (sample_var a (scope_at n k) (name_of ns a x))) 65536 g ∙ sym (sample-old ns a (scope_at n k) x g)))
            (λ g. let b = id_below ns a y i in
            ap (eqb y) (old-or-other (length ns) (place ns (sample_var a (scope_at n k) (name_of ns a x))) 65536 g) ∙ ne_eqb y 65536 (λ e. omega arith)
            ∙ sym (ap (eqb y) (sample-new ns a (scope_at n k) x g) ∙ ne_eqb y (length ns + length ns) (λ e. omega arith)))
            (lt-or-le (place ns (sample_var a (scope_at n k) (name_of ns a x))) (length ns))

    -- what a number became: it stays, or the sample of y took its place
    pub data Stands (x : ℕ) : ℕ → Name → Type 0 where
      stays : {m : Name} → m ≡ name_of ns a x → Stands x 65536 m
      taken : {y : ℕ} {m : Name} → IsId ns a y → m ≡ sample_var a (scope_at n k) (name_of ns a y) → Stands x y m

    renamed-stands : (x : ℕ) (vs : List ℕ) (u y : ℕ) (m : Name) → All (IsId ns a) vs → ((v : ℕ) → IsId ns a v → eqb v u ≡ eq_name m (name_of ns a v)) → Stands x y m
        → Stands x (renamed_from (sample_t s offsets (length ns) a (tabled ns) made n k) vs u y) (renamed a (scope_at n k) (names_of ns a vs) m)
    unfolding renamed_from renamed names_of All
    renamed-stands x [] u y m all tells h = h
    renamed-stands x (v ∷ vs) u y m all tells h =
        subst (λ (b : Bool). Stands x (cond (eqb v u) (renamed_from (sample_t s offsets (length ns) a (tabled ns) made n k) vs (sample_t s offsets (length ns) a (tabled ns) made n k u) u) (renamed_from (sample_t s offsets (length ns) a (tabled ns) made n k) vs u y)) (renamed a (scope_at n k) (names_of ns a vs) (cond b (sample_var a (scope_at n k) (name_of ns a v)) m))) (tells v all.0)
        (by_bool (λ (b : Bool). Stands x (cond b (renamed_from (sample_t s offsets (length ns) a (tabled ns) made n k) vs (sample_t s offsets (length ns) a (tabled ns) made n k u) u) (renamed_from (sample_t s offsets (length ns) a (tabled ns) made n k) vs u y)) (renamed a (scope_at n k) (names_of ns a vs) (cond b (sample_var a (scope_at n k) (name_of ns a v)) m))) (eqb v u)
        (λ e. subst (λ (w : ℕ). Stands x (renamed_from (sample_t s offsets (length ns) a (tabled ns) made n k) vs (sample_t s offsets (length ns) a (tabled ns) made n k w) w) (renamed a (scope_at n k) (names_of ns a vs) (sample_var a (scope_at n k) (name_of ns a v)))) (eqb-true v u e)
        (renamed-stands x vs (sample_t s offsets (length ns) a (tabled ns) made n k v) v (sample_var a (scope_at n k) (name_of ns a v)) all.1
        (λ w i. sample-found v w (id_below ns a v all.0) i ∙ eq_name-turn (name_of ns a w) (sample_var a (scope_at n k) (name_of ns a v)))
        (taken all.0 refl)))
        (λ e. renamed-stands x vs u y m all.1 tells h))

    stood-written : (x y : ℕ) (m : Name) (z : State) → IsId ns a x → Stands x y m → render (tabled ns) (cond (eqb y 65536) (id_items s offsets (length ns) a x) (nm (sample_name_t s offsets (length ns) a n k y) ∷ [])) z ≡ put_name (tabled ns) m z
    unfolding render put_item
    stood-written x y m z i (stays e) = id-written x (id_below ns a x i) z ∙ ap (λ (w : Name). put_name (tabled ns) w z) (sym e)
    stood-written x y m z i (taken j e) =
        let h = id_below ns a y j in
        ap (λ (b : Bool). render (tabled ns) (cond b (id_items s offsets (length ns) a x) (nm (sample_name_t s offsets (length ns) a n k y) ∷ [])) z) (ne_eqb y 65536 (λ g. omega arith))
        ∙ ap (λ (w : Name). put_name (tabled ns) w z) (sample-named n k y h ∙ sym e)

    -- THE LAW: what is written for a number, where these are read
    pub renamed-written : (ids : List ℕ) → All (IsId ns a) ids → (x : ℕ) → IsId ns a x → (z : State) → render (tabled ns) (chosen_items (tabled ns) s offsets (length ns) made a n k ids x) z ≡ put_name (tabled ns) (renamed a (scope_at n k) (names_of ns a ids) (name_of ns a x)) z
    unfolding chosen_items renamed_t
    renamed-written ids all x i z =
        stood-written x (renamed_from (sample_t s offsets (length ns) a (tabled ns) made n k) ids x 65536) (renamed a (scope_at n k) (names_of ns a ids) (name_of ns a x)) z i
        (renamed-stands x ids x 65536 (name_of ns a x) all (λ v j. ids-tell ns a fresh v x j i ∙ eq_name-turn (name_of ns a v) (name_of ns a x)) (stays refl))
