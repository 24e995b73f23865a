-- Lists that go on: what stands in the pack is copied as it stands, and what the machines bring follows by a loop over them.
use Prim.Native.Nat.{ℕ, zero, suc, ◌+◌, ◌-◌, ◌<◌}
use native.Mathlib.Nat.{zero-add}
use native.Mathlib.Omega.{arith}
use mathlib.Core.List.{List, [], ◌∷◌, ◌++◌}
use mathlib.Core.Bool.{cond}
use mathlib.Core.Path.{◌≡◌, refl, sym, ap, ◌∙◌}
use lib.ListN.{length, get_or}
use lib.Dec.{eqb}
use Rattle.wire.specs.Answer.{Answer, counted, many, value}
use Rattle.wire.specs.Bytes.{two}
use Rattle.wire.specs.Writer.{State, puts}
use Rattle.pack_rules.specs.Names.{Name}
use Rattle.pack_rules.specs.Legal.{Each}
use Rattle.pack_rules.specs.Write.{Item, each, equation_items, raw}
use Rattle.pack.specs.Intern.{render}
use Rattle.pack.proofs.Tables.{code}
use Rattle.pack.proofs.Interns.{render-append}
use Rattle.pack.proofs.Copies.{Lies, lies-copied}
use Rattle.machine_rules.specs.Lower.{equations_of}
use Rattle.machines.specs.Layout.{slice_of}
use Rattle.machines.specs.Sections.{Share, adds_items, continued}
use Rattle.machines.specs.CheckedReads.{num, number_in}
use Rattle.machines.specs.TableMeaning.{PackOf, Shown}
use Rattle.machines.specs.AddedAt.{each_t, small_of}
use Rattle.machines.specs.WriteNodesAt.{added_equations_t}
use Rattle.machines.proofs.CheckedReadLaws.{number-num}
use Rattle.machines.proofs.PackCounts.{counted-many}
use Rattle.machines.proofs.AddedLaws.{small_is}
use Rattle.machines.proofs.ShownItems.{raw-first}
use Rattle.machines.proofs.Relaying.{items_at, made_equation_items}

-- a counted list that was read: its count, and the list after it
pub counted-parts : {A : Type 0} (r : ℕ → Answer A) (s : List ℕ) (at : ℕ) (xs : List A) (q : ℕ) → counted r s at ≡ value xs q → (number_in s at ≡ num (length xs) (at + 2)) × (many r (length xs) (at + 2) ≡ value xs q)
counted-parts r s at xs q e = let c = counted-many r s at xs q e in (number-num s at _ _ c.0, c.1)

-- a list that counts 0 has nothing
pub none-long : {A : Type 0} (xs : List A) → length xs ≡ 0 → xs ≡ []
none-long [] e = refl
none-long (x ∷ xs) e = absurd (omega arith)

-- no items stand at the start, up to it
lies-none : (ns : List Name) (s : List ℕ) → Lies ns s 0 [] 0
unfolding code Each
lies-none ns s = record { bytes = refl; known = tt; from = omega arith; to = omega arith }

module _ (ns : List Name) (s old offsets : List ℕ) (P : PackOf ns s old offsets) where
  -- what stands in the pack is written by its bytes
  pub copied : (at : ℕ) (is : List Item) (q : ℕ) → Lies ns s at is q → (z : State) → puts (slice_of s at (q - at)) z ≡ render old is z
  unfolding slice_of
  copied at is q l z = sym (lies-copied ns P.legal s at is q l z) ∙ ap (λ o. render o is z) (sym P.names)

  -- a list of which some stand there
  pub goes_on : {A : Type 0} (g : A → List Item) (xs : List A) (at e c d : ℕ) (is js : List Item) → length xs < 65536 → Lies ns s at (each g xs) e → c ≡ d → ((z : State) → render old is z ≡ render old js z)
      → (z : State) → render old (raw (two (small_of (length xs) + c)) ∷ raw (slice_of s at (e - at)) ∷ is) z ≡ render old (continued g xs d js) z
  unfolding continued
  goes_on g xs at e c d is js l lies f m z =
      let y = puts (two (length xs + d)) z in
      (λ j. render old (raw (two (sym (small_is (length xs) l) j + f j)) ∷ raw (slice_of s at (e - at)) ∷ is) z)
      ∙ raw-first old _ _ z
      ∙ raw-first old _ _ y
      ∙ m (puts (slice_of s at (e - at)) y)
      ∙ ap (render old js) (copied at (each g xs) e lies y)
      ∙ sym (render-append old (each g xs) js y)
      ∙ sym (raw-first old (two (length xs + d)) (each g xs ++ js) z)

  -- a list of which none stand there
  pub begins : {A : Type 0} (g : A → List Item) (c d : ℕ) (is js : List Item) → c ≡ d → ((z : State) → render old is z ≡ render old js z)
      → (z : State) → render old (raw (two (small_of 0 + c)) ∷ raw (slice_of s 0 0) ∷ is) z ≡ render old (continued g [] d js) z
  unfolding each
  begins g c d is js f m z = goes_on g [] 0 0 c d is js (omega arith) (lies-none ns s) f m z

-- a loop over indexes is one over the shares
each_from : (f : ℕ → List Item) (g : Share → List Item) (i : ℕ) (xs : List Share) → ((j : ℕ) → j < length xs → f (i + j) ≡ items_at g xs j) → each_t f (length xs) i ≡ each g xs
unfolding each_t each items_at
each_from f g i [] e = refl
each_from f g i (x ∷ xs) e =
    let a : i ≡ i + 0 = omega arith in
    λ t. (ap f a ∙ e 0 (omega arith)) t ++ each_from f g (suc i) xs (λ j l. let b : suc i + j ≡ i + suc j = omega arith in ap f b ∙ e (suc j) (omega arith)) t

pub each_at_lem : (f : ℕ → List Item) (g : Share → List Item) (xs : List Share) → ((j : ℕ) → j < length xs → f j ≡ items_at g xs j) → each_t f (length xs) 0 ≡ each g xs
each_at_lem f g xs e = each_from f g 0 xs (λ j l. ap f (zero-add j) ∙ e j l)

-- the equations that the machines bring to the node k
module _ (ns : List Name) (s defs receivers regcounts : List ℕ) (k : ℕ) where
  brings-from : (i : ℕ) (xs : List Share) → Shown ns s defs receivers regcounts i xs → (j : ℕ) → j < length xs → cond (eqb (get_or receivers (i + j) 0) k) (items_at made_equation_items xs j) [] ≡ items_at (adds_items equation_items equations_of k) xs j
  unfolding Shown items_at adds_items made_equation_items
  brings-from i [] h j l = absurd (omega arith)
  brings-from i (x ∷ xs) h zero l =
      let e : i + 0 ≡ i = omega arith in
      ap (λ a. cond (eqb a k) (made_equation_items x) []) (ap (λ y. get_or receivers y 0) e ∙ sym h.0.at)
  brings-from i (x ∷ xs) h (suc j) l =
      let e : i + suc j ≡ suc i + j = omega arith in
      ap (λ y. cond (eqb (get_or receivers y 0) k) (items_at made_equation_items xs j) []) e ∙ brings-from (suc i) xs h.1 j (omega arith)

  pub equations-brought : (xs : List Share) → Shown ns s defs receivers regcounts 0 xs → each_t (added_equations_t receivers (items_at made_equation_items xs) k) (length xs) 0 ≡ each (adds_items equation_items equations_of k) xs
  unfolding added_equations_t
  equations-brought xs h =
      each_at_lem _ _ xs (λ j l. ap (λ y. cond (eqb (get_or receivers y 0) k) (items_at made_equation_items xs j) []) (sym (zero-add j)) ∙ brings-from 0 xs h j l)
