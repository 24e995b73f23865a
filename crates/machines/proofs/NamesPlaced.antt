-- The table of names is right: the spot of an index is where the name of that index stands.
use Prim.Native.Nat.{ℕ, zero, suc, ◌+◌, ◌*◌, ◌<◌, ◌≤◌, ◌%◌}
use native.Mathlib.Omega.{arith}
use native.Mathlib.Nat.{mod-eq_of_lt}
use mathlib.Core.List.{List, [], ◌∷◌, ◌++◌, append_assoc, append-nil}
use mathlib.Core.Bool.{Bool, true, false, not}
use mathlib.Core.Path.{◌≡◌, refl, sym, ap, subst, ◌∙◌}
use lib.ListN.{length, get_or, set, take, drop, length-set, length-take, length-drop}
use lib.Seq.{get_or-set_same, get_or-set_other}
use lib.Dec.{eqb, ltb}
use borrow.Author.Tests.{eqb-true, eqb-false, ltb-true}
use Rattle.wire.specs.Answer.{byte, guard, u16, value}
use Rattle.wire.proofs.Answers.{bind-value, byte-value, guard-value, u16-value}
use Rattle.pack_rules.specs.Names.{Name, eq_name, member}
use Rattle.pack_rules.specs.Forms.{name_at}
use Rattle.pack_rules.specs.Legal.{Fresh, place}
use Rattle.pack.specs.RawNames.{raw_name}
use Rattle.pack_rules.specs.Read.{name, name_section, names_after, size}
use Rattle.pack.proofs.NameLaws.{name-value}
use Rattle.pack.proofs.Tables.{eq_name-ne, eq_name-refl, place-at-name}
use Rattle.machines.specs.EmitAt.{pack_name}
use Rattle.machines.specs.Tables.{len_of, names_placed, next_name}
use Rattle.machines.proofs.TableLaws.{name-next, names-step}

-- a name stands at an offset, after its length byte
pub record SpotAt (s : List ℕ) (at : ℕ) (n : Name) : Type 0 where
  pub is : raw_name s at ≡ n
  pub some : 0 < get_or s at 0
  pub inside : at + 1 + get_or s at 0 ≤ length s

pub spot-length : (s : List ℕ) (at : ℕ) (n : Name) → SpotAt s at n → get_or s at 0 ≡ length n
unfolding raw_name
spot-length s at n h =
    let i = h.inside in
    let l : length (take (get_or s at 0) (drop (at + 1) s)) ≡ get_or s at 0 = simp (length-take, length-drop) (omega arith) in
    sym l ∙ ap length h.is

-- names stand one after the other
pub data Spots (s : List ℕ) : ℕ → ℕ → List Name → Type 0 where
  none : {at : ℕ} → Spots s zero at []
  more : {n at : ℕ} {x : Name} {xs : List Name} → SpotAt s at x → Spots s n (next_name s at) xs → Spots s (suc n) at (x ∷ xs)

name-some : (s : List ℕ) (at : ℕ) (x : Name) (q : ℕ) → name s at ≡ value x q → 0 < get_or s at 0
unfolding name size
name-some s at x q e =
    let b = bind-value (size s at) _ x q e in
    let g = guard-value (λ n. ltb 0 n) at (byte s at) b.0 b.1 b.2 in
    let v = byte-value s at b.0 b.1 g.0 in
    let l = ltb-true 0 b.0 g.1 in
    omega (arith, v.is)

-- what reading names says
pub names-read : (s : List ℕ) (n at : ℕ) (t ns : List Name) (q : ℕ) → names_after s t n at ≡ value ns q → (xs : List Name) × (ns ≡ t ++ xs) × (length xs ≡ n) × Fresh t xs × Spots s n at xs
unfolding names_after Fresh
names-read s zero at t ns q e = let i : t ≡ ns = cc in ([], sym i ∙ sym (append-nil t), refl, tt, none)
names-read s (suc n) at t ns q e =
    let b = bind-value (guard (λ x. not (member x t)) at (name s at)) _ ns q e in
    let g = guard-value (λ x. not (member x t)) at (name s at) b.0 b.1 b.2 in
    let v = name-value s at b.0 b.1 g.0 in
    let to = v.to in
    let inside = v.inside in
    let l : at + 1 + get_or s at 0 ≤ length s = omega arith in
    let k : b.1 ≡ next_name s at = v.to ∙ name-next s at (omega arith) in
    let r = names-read s n b.1 (t ++ (b.0 ∷ [])) ns q b.3 in (
      b.0 ∷ r.0,
      r.1 ∙ append_assoc t (b.0 ∷ []) r.0,
      ap suc r.2,
      (fresh b.0 (member b.0 t) refl g.1, r.3),
      more (record { is = sym v.is; some = name-some s at b.0 b.1 g.0; inside = l }) (subst (λ (p : ℕ). Spots s n p r.0) k r.4),
    )
  where
    fresh : (x : Name) (b : Bool) → member x t ≡ b → not b ≡ true → member x t ≡ false
    fresh x true e f = let z : ◌≡◌ {A = ℕ} 0 1 = cc in absurd (omega arith)
    fresh x false e f = e

-- the name section
pub record NamesAre (s : List ℕ) (ns : List Name) : Type 0 where
  pub count : (p : ℕ) × (u16 s 0 ≡ value (length ns) p)
  pub fresh : Fresh [] ns
  pub offsets : Spots s (length ns) 2 ns

pub section-read : (s : List ℕ) (ns : List Name) (q : ℕ) → name_section s 0 ≡ value ns q → NamesAre s ns
unfolding name_section
section-read s ns q e =
    let b = bind-value (u16 s 0) _ ns q e in
    let r = names-read s b.0 b.1 [] ns q b.3 in
    let i : length ns ≡ b.0 = ap length r.1 ∙ r.2 in
    let p = u16-value s 0 b.0 b.1 b.2 in
    let to = p.to in
    let two : b.1 ≡ 2 = omega arith in
    record {
      count = (b.1, b.2 ∙ ap (λ (n : ℕ). value n b.1) (sym i));
      fresh = subst (Fresh []) (sym r.1) r.3;
      offsets = subst (λ (l : List Name). Spots s (length ns) 2 l) (sym r.1) (subst (λ (n : ℕ). Spots s n 2 r.0) (sym i) (subst (λ (a : ℕ). Spots s b.0 a r.0) two r.4));
    }

-- each name takes two bytes or more
spots-few : (s : List ℕ) (n at : ℕ) (xs : List Name) → Spots s n at xs → at ≤ length s → at + 2 * n ≤ length s
spots-few s zero at [] none h = omega arith
spots-few s (suc n) at (x ∷ xs) (more a r) h =
    let i = a.inside in
    let j = a.some in
    let e : at + 1 + get_or s at 0 ≡ next_name s at = name-next s at (omega arith) in
    let k = spots-few s n (next_name s at) xs r (omega arith) in
    omega arith
spots-few s zero at (x ∷ xs) x5 h = elim x5 [ ]
spots-few s (suc n) at [] x4 h = elim x4 [ ]

pub names-few : (s : List ℕ) (ns : List Name) → NamesAre s ns → 2 + 2 * length ns ≤ length s
names-few s ns h =
    let p = u16-value s 0 (length ns) h.count.0 h.count.1 in
    spots-few s (length ns) 2 ns h.offsets (omega (arith, p.inside))

-- indexes of names are equal where the names are
pub alone : (ns : List Name) → Fresh [] ns → (i x : ℕ) → i < length ns → x < length ns → eq_name (name_at ns x) (name_at ns i) ≡ eqb x i
alone ns f i x h k = go (eqb x i) refl
  where
    go : (b : Bool) → eqb x i ≡ b → eq_name (name_at ns x) (name_at ns i) ≡ b
    go true e = ap (λ (y : ℕ). eq_name (name_at ns y) (name_at ns i)) (eqb-true x i e) ∙ eq_name-refl (name_at ns i)
    go false e = eq_name-ne (name_at ns x) (name_at ns i) (λ g. eqb-false x i e (sym (place-at-name ns x f k) ∙ ap (place ns) g ∙ place-at-name ns i f h))

-- the table
placed-before : (s : List ℕ) (n at k : ℕ) (t : List ℕ) (j : ℕ) → j < k → get_or (names_placed s n at k t) j 0 ≡ get_or t j 0
unfolding names_placed
placed-before s zero at k t j h = refl
placed-before s (suc n) at k t j h = placed-before s n (next_name s at) (k + 1) (set t k (at % 65536)) j (omega arith) ∙ get_or-set_other t k j (at % 65536) 0 (λ e. omega arith)

placed_at : (s : List ℕ) → length s ≤ 65536 → (n at k : ℕ) (t : List ℕ) (ns : List Name) → Spots s n at ns → k + n ≤ length t → (i j : ℕ) → i < n → k + i ≡ j → SpotAt s (get_or (names_placed s n at k t) j 0) (get_or ns i [])
placed_at s short zero at k t [] none l i j h g = absurd (omega arith)
placed_at s short zero at k t (x ∷ xs) x9 l i j h g = elim x9 [ ]
placed_at s short (suc n) at k t [] x6 l i j h g = elim x6 [ ]
placed_at s short (suc n) at k t (x ∷ xs) (more a r) l zero j h g =
    let m : j ≡ k = omega arith in
    let e : get_or (names_placed s (suc n) at k t) j 0 ≡ at =
    ap (λ l. get_or l j 0) (names-step s n k at t) ∙ ap (λ i. get_or (names_placed s n (next_name s at) (k + 1) (set t k (at % 65536))) i 0) m
    ∙ placed-before s n (next_name s at) (k + 1) (set t k (at % 65536)) k (omega arith) ∙ get_or-set_same t k (at % 65536) 0 (omega arith) ∙ mod-eq_of_lt (let w = a.inside in omega arith) in
    subst (λ (p : ℕ). SpotAt s p x) (sym e) a
placed_at s short (suc n) at k t (x ∷ xs) (more a r) l (suc i) j h g =
    let m : k + 1 + n ≤ length (set t k (at % 65536)) = omega (arith, length-set t k (at % 65536)) in
    subst (λ (l : List ℕ). SpotAt s (get_or l j 0) (get_or xs i [])) (sym (names-step s n k at t)) (placed_at s short n (next_name s at) (k + 1) (set t k (at % 65536)) xs r m i j (omega arith) (omega arith))

pub names-placed : (s : List ℕ) → length s ≤ 65536 → (ns : List Name) (t : List ℕ) → NamesAre s ns → length ns ≤ length t → (i : ℕ) → i < length ns → SpotAt s (get_or (names_placed s (length ns) 2 0 t) i 0) (name_at ns i)
unfolding name_at
names-placed s short ns t h l i k = placed_at s short (length ns) 2 0 t ns h.offsets (omega arith) i i k (omega arith)

-- a name's length, by the table
pub right-length : (s offsets : List ℕ) (i : ℕ) (n : Name) → SpotAt s (get_or offsets i 0) n → len_of s offsets i ≡ length n
unfolding len_of
right-length s offsets i n h = spot-length s (get_or offsets i 0) n h

-- a name itself, by the table
pub right-name : (s offsets : List ℕ) (i : ℕ) (n : Name) → SpotAt s (get_or offsets i 0) n → pack_name s offsets i ≡ n
unfolding pack_name
right-name s offsets i n h = h.is
