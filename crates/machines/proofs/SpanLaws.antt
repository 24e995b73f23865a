-- Laws for code that asks only machines from the first to the last one that go to a node: their tables begin at the first one, f.
use Prim.Native.Nat.{ℕ, zero, suc, ◌+◌, ◌-◌, ◌<◌, ◌≤◌, min}
use native.Mathlib.Omega.{arith}
use mathlib.Core.List.{List, [], ◌∷◌, ◌++◌}
use mathlib.Core.Bool.{Bool, cond, false, true}
use mathlib.Core.Path.{◌≡◌, refl, sym, ap, subst, ◌∙◌}
use lib.ListN.{drop, get_or, length, length-drop, take}
use lib.Seq.{get_or-drop, take_all}
use lib.Dec.{eqb}
use borrow.Author.Tests.{eqb-false, eqb-true}
use Rattle.wire.specs.Bytes.{two}
use Rattle.wire.specs.Writer.{State}
use Rattle.pack_rules.specs.Names.{Name}
use Rattle.pack_rules.specs.Write.{Item, raw}
use Rattle.pack.specs.Intern.{render}
use Rattle.pack.proofs.Interns.{render-append}
use Rattle.machines.specs.CheckedReads.{number_in, with}
use Rattle.machines.specs.Layout.{slice_of}
use Rattle.machines.specs.AddedAt.{added_locals_t, adds_equations_t, adds_locals_t, each_t, equation_count_t, local_count_t, locals_in, locals_t, small_of, total_t}
use Rattle.machines.specs.NodeHeads.{new_head_t, node_locals_t}
use Rattle.machines.specs.EmitMachineAt.{AllWrite, Writes}
use Rattle.machines.specs.WriteNodesAt.{added_equations_t, node_equations_t}
use Rattle.machines.proofs.AddedLaws.{brings-no-equations, brings-no-locals, each-skip, no-locals, total_first}
use Rattle.machines.proofs.EmitMachineLaws.{no-equations}
use Rattle.pack.proofs.TableLaws.{drop-part}

-- one more machine from the end on that goes elsewhere
pub elsewhere-less : (receivers : List ℕ) (n k p i a : ℕ) → i ≡ p - 1 → a ≡ get_or receivers i 0 → (a ≡ k → ⊥) → ((j : ℕ) → p ≤ j → j < n → get_or receivers j 0 ≡ k → ⊥)
    → (j : ℕ) → i ≤ j → j < n → get_or receivers j 0 ≡ k → ⊥
elsewhere-less receivers n k p i a d e h g j l m q = go (eqb j i) refl
  where
    go : (b : Bool) → eqb j i ≡ b → ⊥
    go true x = h (e ∙ ap (λ (y : ℕ). get_or receivers y 0) (sym (eqb-true j i x)) ∙ q)
    go false x = g j (omega (arith, eqb-false j i x)) m q

-- a table from f on, as it is cut and as it is looked up
pub from_is : (t : List ℕ) (f b : ℕ) → b ≡ min f (length t) → take (length t - b) (drop b t) ≡ drop f t
from_is t f b e = take_all (length t - b) (drop b t) (omega (arith, length-drop b t)) ∙ drop-part t f b e

from_at : (t x : List ℕ) (f : ℕ) → x ≡ drop f t → (p : ℕ) → get_or x p 0 ≡ get_or t (f + p) 0
from_at t x f e p = ap (λ (l : List ℕ). get_or l p 0) e ∙ get_or-drop f t p 0

-- sums and items of m indexes are those of the same indexes from f on, and of more indexes where these add nothing
total-from : (g h : ℕ → ℕ) (f : ℕ) → ((p : ℕ) → h p ≡ g (f + p)) → (m i b : ℕ) → i ≡ f + b → total_t h m b ≡ total_t g m i
unfolding total_t
total-from g h f e zero i b d = refl
total-from g h f e (suc m) i b d =
    let x : h b ≡ g i = e b ∙ ap g (sym d) in
    let y : total_t h m (suc b) ≡ total_t g m (suc i) = total-from g h f e m (suc i) (suc b) (omega arith) in
    λ j. x j + y j

total-cut : (g : ℕ → ℕ) (c m i : ℕ) → m ≤ c → ((p : ℕ) → i + m ≤ p → p < i + c → 0 ≡ g p) → total_t g c i ≡ total_t g m i
unfolding total_t
total-cut g zero zero i l h = refl
total-cut g zero (suc m) i l h = absurd (omega arith)
total-cut g (suc c) zero i l h =
    let x : total_t g c (suc i) ≡ 0 = total-cut g c zero (suc i) (omega arith) (λ p a b. h p (omega arith) (omega arith)) in
    omega (arith, h i (omega arith) (omega arith))
total-cut g (suc c) (suc m) i l h = ap (λ y. g i + y) (total-cut g c m (suc i) (omega arith) (λ p a b. h p (omega arith) (omega arith)))

each_from : (g h : ℕ → List Item) (f : ℕ) → ((p : ℕ) → h p ≡ g (f + p)) → (m i b : ℕ) → i ≡ f + b → each_t h m b ≡ each_t g m i
unfolding each_t
each_from g h f e zero i b d = refl
each_from g h f e (suc m) i b d =
    let x : h b ≡ g i = e b ∙ ap g (sym d) in
    let y : each_t h m (suc b) ≡ each_t g m (suc i) = each_from g h f e m (suc i) (suc b) (omega arith) in
    λ j. x j ++ y j

each-cut : (g : ℕ → List Item) (c m i : ℕ) → m ≤ c → ((p : ℕ) → i + m ≤ p → p < i + c → g p ≡ []) → each_t g c i ≡ each_t g m i
unfolding each_t
each-cut g zero zero i l h = refl
each-cut g zero (suc m) i l h = absurd (omega arith)
each-cut g (suc c) zero i l h =
    let x : each_t g c (suc i) ≡ [] = each-cut g c zero (suc i) (omega arith) (λ p a b. h p (omega arith) (omega arith)) in
    λ j. h i (omega arith) (omega arith) j ++ x j
each-cut g (suc c) (suc m) i l h = ap (λ y. g i ++ y) (each-cut g c m (suc i) (omega arith) (λ p a b. h p (omega arith) (omega arith)))

module _ (n f m : ℕ) (few : m ≤ n - f) where
  total-span : (g h : ℕ → ℕ) → ((p : ℕ) → h p ≡ g (f + p)) → ((p : ℕ) → 0 ≤ p → p < f → 0 ≡ g p) → ((p : ℕ) → f + m ≤ p → p < n → 0 ≡ g p) → total_t h m 0 ≡ total_t g n 0
  total-span g h e before after =
      let a : total_t h m 0 ≡ total_t g m f = total-from g h f e m f 0 (omega arith) in
      let b : total_t g (n - f) f ≡ total_t g m f = total-cut g (n - f) m f few (λ p x y. after p x (omega arith)) in
      omega (arith, total_first g n f (omega arith) before)

  each-span : (g h : ℕ → List Item) → ((p : ℕ) → h p ≡ g (f + p)) → ((p : ℕ) → 0 ≤ p → p < f → g p ≡ []) → ((p : ℕ) → f + m ≤ p → p < n → g p ≡ []) → each_t h m 0 ≡ each_t g n 0
  each-span g h e before after =
      let d : n - 0 ≡ n = omega arith in
      each_from g h f e m f 0 (omega arith)
      ∙ sym (each-cut g (n - f) m f few (λ p x y. after p x (omega arith)))
      ∙ sym (each-skip g n f f 0 (omega arith) before)
      ∙ ap (λ (y : ℕ). each_t g y 0) d

-- what is written of machines, from f on
pub all_from : (old defs ms : List ℕ) (n f m : ℕ) (w : ℕ → List ℕ → List ℕ → List ℕ → List Item) (eqs : ℕ → List Item) → ms ≡ drop f defs → m ≤ n - f → AllWrite old w defs n eqs → AllWrite old w ms m (λ p. eqs (f + p))
all_from old defs ms n f m w eqs e l h = λ p q. subst (λ (y : ℕ). Writes old w y (eqs (f + p))) (sym (from_at defs ms f e p)) (h (f + p) (omega arith))

-- a node that is begun is the same, whether all n machines are asked or only those m from f on
module _ (ns : List Name) (s defs receivers regcounts offsets ms gs rs : List ℕ) (n k f m : ℕ) (em : ms ≡ drop f defs) (eg : gs ≡ drop f receivers) (er : rs ≡ drop f regcounts)
    (few : m ≤ n - f) (before : (p : ℕ) → 0 ≤ p → p < f → get_or receivers p 0 ≡ k → ⊥) (after : (p : ℕ) → f + m ≤ p → p < n → get_or receivers p 0 ≡ k → ⊥) where
  span-locals : node_locals_t ns s ms gs rs offsets m k 0 0 0 ≡ node_locals_t ns s defs receivers regcounts offsets n k 0 0 0
  unfolding node_locals_t adds_locals_t added_locals_t
  span-locals =
      let t = total-span n f m few (adds_locals_t ns s defs receivers regcounts k) (adds_locals_t ns s ms gs rs k)
      (λ p j. cond (eqb (from_at receivers gs f eg p j) k) (local_count_t ns s (from_at defs ms f em p j) (from_at regcounts rs f er p j)) 0)
      (λ p a b. brings-no-locals ns s defs receivers regcounts k p _ _ _ refl refl refl (before p a b))
      (λ p a b. brings-no-locals ns s defs receivers regcounts k p _ _ _ refl refl refl (after p a b)) in
      let e = each-span n f m few (added_locals_t ns s defs receivers regcounts offsets k) (added_locals_t ns s ms gs rs offsets k)
      (λ p j. cond (eqb (from_at receivers gs f eg p j) k) (locals_t ns s offsets (from_at defs ms f em p j) (from_at regcounts rs f er p j)) [])
      (λ p a b. no-locals ns s defs receivers regcounts offsets k p (before p a b))
      (λ p a b. no-locals ns s defs receivers regcounts offsets k p (after p a b)) in
      λ j. raw (two (small_of 0 + t j)) ∷ raw (slice_of s 0 (0 - 0)) ∷ e j

  span-equations : (eqs : ℕ → List Item) → node_equations_t ns s ms gs rs offsets m (λ p. eqs (f + p)) k 0 0 0 ≡ node_equations_t ns s defs receivers regcounts offsets n eqs k 0 0 0
  unfolding node_equations_t adds_equations_t added_equations_t
  span-equations eqs =
      let t = total-span n f m few (adds_equations_t ns s defs receivers regcounts k) (adds_equations_t ns s ms gs rs k)
      (λ p j. cond (eqb (from_at receivers gs f eg p j) k) (equation_count_t ns s (from_at defs ms f em p j) (from_at regcounts rs f er p j)) 0)
      (λ p a b. brings-no-equations ns s defs receivers regcounts k p _ _ _ refl refl refl (before p a b))
      (λ p a b. brings-no-equations ns s defs receivers regcounts k p _ _ _ refl refl refl (after p a b)) in
      let e = each-span n f m few (added_equations_t receivers eqs k) (added_equations_t gs (λ p. eqs (f + p)) k)
      (λ p j. cond (eqb (from_at receivers gs f eg p j) k) (eqs (f + p)) [])
      (λ p a b. no-equations receivers eqs k p (before p a b))
      (λ p a b. no-equations receivers eqs k p (after p a b)) in
      λ j. raw (two (small_of 0 + t j)) ∷ raw (slice_of s 0 (0 - 0)) ∷ e j

  span_head : (at : ℕ) → new_head_t ns s ms gs rs offsets m k at ≡ new_head_t ns s defs receivers regcounts offsets n k at
  unfolding new_head_t
  span_head at = ap (λ (is : List Item). with (number_in s at) λ v p. with (number_in s p) λ o b. raw (two v) ∷ raw (1 ∷ []) ∷ raw (slice_of s b (locals_in ns s at - b)) ∷ is) span-locals

  pub begun-put : (old : List ℕ) (eqs : ℕ → List Item) (at : ℕ) (z a w : State) → a ≡ render old (new_head_t ns s ms gs rs offsets m k at) z → w ≡ render old (node_equations_t ns s ms gs rs offsets m (λ p. eqs (f + p)) k 0 0 0) a
      → w ≡ render old (new_head_t ns s defs receivers regcounts offsets n k at ++ node_equations_t ns s defs receivers regcounts offsets n eqs k 0 0 0) z
  begun-put old eqs at z a w ha hw =
      let x : a ≡ render old (new_head_t ns s defs receivers regcounts offsets n k at) z = ha ∙ ap (λ (is : List Item). render old is z) (span_head at) in
      hw
      ∙ (λ j. render old (span-equations eqs j) (x j))
      ∙ sym (render-append old (new_head_t ns s defs receivers regcounts offsets n k at) (node_equations_t ns s defs receivers regcounts offsets n eqs k 0 0 0) z)
