-- The enums that are written from the layout are those of the definition.
use Prim.Native.Nat.{ℕ, zero, suc, ◌+◌}
use native.Mathlib.Nat.{zero-add, suc-add}
use native.Mathlib.Omega.{arith}
use mathlib.Core.List.{List, [], ◌∷◌, ◌++◌, append_assoc, append-nil}
use mathlib.Core.Bool.{true}
use mathlib.Core.Path.{◌≡◌, refl, sym, ap, ◌∙◌}
use lib.ListN.{length, get_or}
use Rattle.wire.specs.Bytes.{two}
use Rattle.pack_rules.specs.Names.{Name}
use Rattle.pack_rules.specs.Syntax.{Enum}
use Rattle.machine_rules.specs.Resolved.{ResolvedMachine, ResolvedRegions, ResolvedStates, r_cons, r_nil, s_cons, s_nil}
use Rattle.pack_rules.specs.Write.{Item, each, enum_items, list, name_items, nm, raw}
use Rattle.machine_rules.specs.MadeNames.{enum_name}
use Rattle.machines.specs.Layout.{HeldR, HeldS, RegionRow, StateRow, g_end, g_more, h_end, h_more, slice_of}
use Rattle.machine_rules.specs.Lower.{enums_of, enums_r, enums_s, names_of, size_r, size_s}
use Rattle.machines.specs.EmitAt.{enum_t, enums_t, letters_at, variants_t}
use Rattle.machines.proofs.LocalLaws.{each_append}

ids-add : (i a b o j : ℕ) → o ≡ i + a → j ≡ o + b → j ≡ i + (a + b)
ids-add i a b o j e f = omega arith

-- what a row's letters are
pub state-letters : {at tr a m e k : ℕ} (t qualified : List ℕ) (p : ℕ) (full : Name) → StateRow t p at tr a m e k → slice_of qualified a m ≡ full → letters_at t qualified p ≡ full
unfolding letters_at
state-letters t qualified p full row f = (λ i. slice_of qualified (row.letter i) (row.letters i)) ∙ f

pub region-letters : {x y a m e i n st up : ℕ} (t qualified : List ℕ) (p : ℕ) → RegionRow t p x y a m e i n st up → letters_at t qualified p ≡ slice_of qualified a m
unfolding letters_at
region-letters t qualified p row = λ i. slice_of qualified (row.letter i) (row.letters i)

module _ (ns : List Name) (s t reg qualified : List ℕ) where
  -- ids go up by the number of regions
  mutual
    unfolding size_s size_r

    pub id_s : {pre : Name} {up l n p i q j : ℕ} (ss : ResolvedStates) → HeldS ns s t reg qualified pre up l n p i ss q j → j ≡ i + size_s ss
    id_s s_nil (h_end a b) = omega (arith, b)
    id_s (s_cons nn es ts rs rest) (h_more row d to f sl ms rg st) = ids-add _ (size_r rs) (size_s rest) _ _ (id_r rs rg) (id_s rest st)

    pub id_r : {up st l k p i q j : ℕ} (rs : ResolvedRegions) → HeldR ns s t reg qualified up st l k p i rs q j → j ≡ i + size_r rs
    id_r r_nil (g_end a b) = omega (arith, b)
    id_r (r_cons ini h ss rest) (g_more row rg x f pr fu st more) = omega (arith, id_s ss st, id_r rest more)

  variants-end : (p : ℕ) → variants_t t qualified 0 p ≡ []
  unfolding variants_t
  variants-end p = refl

  variants-step : {at tr a m e k : ℕ} (n p : ℕ) (full : Name) (is : List Item) → StateRow t p at tr a m e k → slice_of qualified a m ≡ full → variants_t t qualified n e ≡ is → variants_t t qualified (suc n) p ≡ nm full ∷ is
  unfolding variants_t
  variants-step n p full is row f h =
      let b = state-letters t qualified p full row f in
      λ i. nm (b i) ∷ (ap (variants_t t qualified n) row.after ∙ h) i

  variants-held : {pre : Name} {up l n p i q j : ℕ} (ss : ResolvedStates) → HeldS ns s t reg qualified pre up l n p i ss q j → variants_t t qualified n p ≡ each name_items (names_of ss)
  unfolding names_of each name_items
  variants-held s_nil (h_end a b) = variants-end _
  variants-held (s_cons nn es ts rs rest) (h_more row d to f sl ms rg st) = variants-step _ _ nn _ row sl (variants-held rest st)

  pub count_held : {pre : Name} {up l n p i q j : ℕ} (ss : ResolvedStates) → HeldS ns s t reg qualified pre up l n p i ss q j → n ≡ length (names_of ss)
  unfolding names_of
  count_held s_nil (h_end a b) = refl
  count_held (s_cons nn es ts rs rest) (h_more row d to f sl ms rg st) = ap suc (count_held rest st)

  unfoldable enum_for : Name → ℕ → ResolvedStates → Enum
  enum_for m i ss = record { name = enum_name m i; variants = names_of ss }

  -- the enum of one region
  enum-held : {x y a b e n st up : ℕ} {pre : Name} {l q j v w : ℕ} (m : Name) (p i : ℕ) (ss : ResolvedStates) → RegionRow t p x y a b e i n st up → HeldS ns s t reg qualified pre v l n (p + 9) w ss q j → enum_t t qualified m p ≡ enum_items (enum_for m i ss)
  unfolding enum_t enum_items enum_for list
  enum-held m p i ss row h =
      let c = row.states ∙ count_held ss h in
      λ k. nm (enum_name m (row.number k)) ∷ raw (two (c k)) ∷ (ap (λ (j : ℕ). variants_t t qualified j (p + 9)) row.states ∙ variants-held ss h) k

  enums-append : (m : Name) (i a b : ℕ) → enums_t t qualified reg m i (a + b) ≡ enums_t t qualified reg m i a ++ enums_t t qualified reg m (i + a) b
  unfolding enums_t
  enums-append m i zero b = let z : i + 0 ≡ i = omega arith in rw (zero-add b, z)
  enums-append m i (suc a) b =
      let e : suc i + a ≡ i + suc a = omega arith in
      rw suc-add
      (ap (λ (is : List Item). enum_t t qualified m (get_or reg i 0) ++ is) (enums-append m (suc i) a b ∙ ap (λ (k : ℕ). enums_t t qualified reg m (suc i) a ++ enums_t t qualified reg m k b) e)
      ∙ sym (append_assoc (enum_t t qualified m (get_or reg i 0)) (enums_t t qualified reg m (suc i) a) (enums_t t qualified reg m (i + suc a) b)))

  enums-join : (m : Name) (i a b o : ℕ) (xs : List Enum) (ys : ℕ → List Enum) → o ≡ i + a → enums_t t qualified reg m i a ≡ each enum_items xs → enums_t t qualified reg m o b ≡ each enum_items (ys o) → enums_t t qualified reg m i (a + b) ≡ each enum_items (xs ++ ys (i + a))
  enums-join m i a b o xs ys e f g =
      enums-append m i a b
      ∙ (λ k. f k ++ (ap (λ (y : ℕ). enums_t t qualified reg m y b) (sym e) ∙ g ∙ ap (λ (y : ℕ). each enum_items (ys y)) e) k)
      ∙ sym (each_append enum_items xs (ys (i + a)))

  enums-first : (m : Name) (i p n : ℕ) (x : Enum) (xs : List Enum) → get_or reg i 0 ≡ p → enum_t t qualified m p ≡ enum_items x → enums_t t qualified reg m (suc i) n ≡ each enum_items xs → enums_t t qualified reg m i (suc n) ≡ each enum_items (x ∷ xs)
  unfolding enums_t each
  enums-first m i p n x xs e f g = λ k. (ap (enum_t t qualified m) e ∙ f) k ++ g k

  enums-none : (m : Name) (i : ℕ) → enums_t t qualified reg m i 0 ≡ each enum_items []
  unfolding enums_t each
  enums-none m i = refl

  -- all enums below, in order of ids
  mutual
    unfolding enums_s enums_r size_s size_r enum_for

    pub enums-states : {pre : Name} {up l n p i q j : ℕ} (m : Name) (ss : ResolvedStates) → HeldS ns s t reg qualified pre up l n p i ss q j → enums_t t qualified reg m i (size_s ss) ≡ each enum_items (enums_s m i ss)
    enums-states m s_nil (h_end a b) = enums-none m _
    enums-states m (s_cons nn es ts rs rest) (h_more row d to f sl ms rg st) =
        enums-join m _ (size_r rs) (size_s rest) _ _ (λ k. enums_s m k rest) (id_r rs rg) (enums-regions m rs rg) (enums-states m rest st)

    pub enums-regions : {up st l k p i q j : ℕ} (m : Name) (rs : ResolvedRegions) → HeldR ns s t reg qualified up st l k p i rs q j → enums_t t qualified reg m i (size_r rs) ≡ each enum_items (enums_r m i rs)
    enums-regions m r_nil (g_end a b) = enums-none m _
    enums-regions m (r_cons ini h ss rest) (g_more row rg x f pr fu st more) =
        ap (enums_t t qualified reg m _) (suc-add (size_s ss) (size_r rest))
        ∙ enums-first m _ _ (size_s ss + size_r rest) _ _ rg (enum-held m _ _ ss row st)
        (enums-join m _ (size_s ss) (size_r rest) _ _ (λ k. enums_r m k rest) (id_s ss st) (enums-states m ss st) (enums-regions m rest more))

-- a machine has as many regions as the layout counted
pub regions-held : (ns : List Name) (s t reg qualified : List ℕ) (x : ResolvedMachine) (q j : ℕ) → HeldR ns s t reg qualified 0 0 8 1 0 0 (r_cons x.initial true x.states r_nil) q j → j ≡ suc (size_s x.states)
unfolding size_r
regions-held ns s t reg qualified x q j h = omega (arith, id_r ns s t reg qualified (r_cons x.initial true x.states r_nil) h)

-- the enums of a machine whose top region is held at the word 0
pub enums-machine : (ns : List Name) (s t reg qualified : List ℕ) (x : ResolvedMachine) (q j : ℕ) → HeldR ns s t reg qualified 0 0 8 1 0 0 (r_cons x.initial true x.states r_nil) q j → enums_t t qualified reg x.name 0 (suc (size_s x.states)) ≡ each enum_items (enums_of x)
unfolding enums_of enums_r size_r
enums-machine ns s t reg qualified x q j h =
    let n : suc (size_s x.states) ≡ suc (size_s x.states) + 0 = omega arith in
    ap (enums_t t qualified reg x.name 0) n
    ∙ enums-regions ns s t reg qualified x.name (r_cons x.initial true x.states r_nil) h
    ∙ ap (λ (es : List Enum). each enum_items (record { name = enum_name x.name 0; variants = names_of x.states } ∷ es)) (append-nil (enums_s x.name 1 x.states))
