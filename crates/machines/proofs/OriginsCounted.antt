-- Laws for the code that counts the equations before a machine, from one machine to the next.
use Prim.Native.Nat.{ℕ, ◌+◌}
use native.Mathlib.Numerals.{add-one}
use native.Mathlib.Omega.{arith}
use mathlib.Core.List.{List, []}
use mathlib.Core.Bool.{Bool, cond, false, true}
use mathlib.Core.Path.{◌≡◌, refl, sym, ap, subst, ◌∙◌}
use lib.ListN.{get_or}
use lib.Dec.{eqb}
use borrow.Author.Tests.{eq-eqb, eqb-true, ne_eqb}
use Rattle.wire.specs.Writer.{State}
use Rattle.pack_rules.specs.Limits.{absent}
use Rattle.pack_rules.specs.Names.{Name}
use Rattle.pack_rules.specs.Write.{Item}
use Rattle.pack.specs.Intern.{render}
use Rattle.machines.specs.declared.sections.Counted.{Counted}
use Rattle.machines.specs.CheckedReads.{number_in, with}
use Rattle.machines.specs.AddedAt.{adds_equations_t, before_t, counted, counted_t, equation_count_t, first_t, given_origin_t, old_t, origin_t, own_origin_t, owned_t, passed_t, total_t, turned_t}
use Rattle.machines.proofs.AddedLaws.{total-end}

module _ (ns : List Name) (s defs receivers regcounts : List ℕ) (count from : ℕ) where
  -- what was counted is right for the machine i
  abbrev pub Right : Counted → ℕ → Type 0
  Right d i = d.first ≡ before_t ns s defs receivers regcounts count from d.node i

  pub right-start : (b : ℕ) → b ≡ old_t ns s count from 0 → b ≡ before_t ns s defs receivers regcounts count from 0 0
  unfolding before_t total_t
  right-start b e = omega (arith, e)

  module _ (d : Counted) (i : ℕ) where
    -- kept, since the machine has no owner or goes to the same node, and counted anew
    pub kept-alone : owned_t s defs i ≡ 0 → d ≡ counted_t ns s defs receivers regcounts count from d i
    unfolding counted_t
    kept-alone e = rw (eq-eqb (owned_t s defs i) 0 e)

    pub kept_same : (k : ℕ) → (owned_t s defs i ≡ 0 → ⊥) → k ≡ get_or receivers i 0 → d.node ≡ k → d ≡ counted_t ns s defs receivers regcounts count from d i
    unfolding counted_t turned_t
    kept_same k h e f = let g : d.node ≡ get_or receivers i 0 = f ∙ e in rw (ne_eqb (owned_t s defs i) 0 h, eq-eqb d.node (get_or receivers i 0) g)

    pub counted-anew : (k b c : ℕ) → (owned_t s defs i ≡ 0 → ⊥) → k ≡ get_or receivers i 0 → (d.node ≡ k → ⊥) → b ≡ old_t ns s count from k → c ≡ total_t (adds_equations_t ns s defs receivers regcounts k) i 0
        → counted k (b + c) ≡ counted_t ns s defs receivers regcounts count from d i
    unfolding counted_t turned_t before_t
    counted-anew k b c h e f eb ec =
        (λ j. counted k (eb j + ec j))
        ∙ ap (λ y. counted y (old_t ns s count from y + total_t (adds_equations_t ns s defs receivers regcounts y) i 0)) e
        ∙ (rw (ne_eqb (owned_t s defs i) 0 h, ne_eqb d.node (get_or receivers i 0) (λ g. f (g ∙ sym e))))

    -- what is counted for a machine stays right, and is its own where it has an owner
    turned_right : (k : ℕ) → Right d i → Right (turned_t ns s defs receivers regcounts count from d k i) i
    unfolding turned_t
    turned_right k h = go (eqb d.node k)
      where
        go : (x : Bool) → Right (cond x d (counted k (before_t ns s defs receivers regcounts count from k i))) i
        go true = h
        go false = refl

    turned-node : (k : ℕ) → (turned_t ns s defs receivers regcounts count from d k i).node ≡ k
    unfolding turned_t
    turned-node k = go (eqb d.node k) refl
      where
        go : (x : Bool) → eqb d.node k ≡ x → (cond x d (counted k (before_t ns s defs receivers regcounts count from k i))).node ≡ k
        go true e = eqb-true d.node k e
        go false e = refl

    pub counted-right : (r : Counted) → r ≡ counted_t ns s defs receivers regcounts count from d i → Right d i → Right r i
    unfolding counted_t
    counted-right r e h = subst (λ (y : Counted). Right y i) (sym e) (go (eqb (owned_t s defs i) 0))
      where
        go : (x : Bool) → Right (cond x d (turned_t ns s defs receivers regcounts count from d (get_or receivers i 0) i)) i
        go true = h
        go false = turned_right (get_or receivers i 0) h

    counted-first : (r : Counted) → r ≡ counted_t ns s defs receivers regcounts count from d i → Right d i → (owned_t s defs i ≡ 0 → ⊥) → r.first ≡ first_t ns s defs receivers regcounts count from i
    unfolding counted_t first_t
    counted-first r e h f =
        let t = turned_t ns s defs receivers regcounts count from d (get_or receivers i 0) i in
        let g : r ≡ t = e ∙ (rw (ne_eqb (owned_t s defs i) 0 f)) in
        ap (λ (y : Counted). y.first) g ∙ turned_right (get_or receivers i 0) h ∙ ap (λ y. before_t ns s defs receivers regcounts count from y i) (turned-node (get_or receivers i 0))

    given-own : (r : Counted) → r ≡ counted_t ns s defs receivers regcounts count from d i → Right d i → given_origin_t ns s defs regcounts r.first i ≡ own_origin_t ns s defs receivers regcounts count from i
    unfolding given_origin_t own_origin_t owned_t with
    given-own r e h = go (eqb o absent) refl
      where
        m : ℕ
        m = (number_in s (get_or defs i 0)).value

        o : ℕ
        o = (number_in s (number_in s (get_or defs i 0)).next).value

        go : (x : Bool) → eqb o absent ≡ x → cond x [] (origin_t o m r.first (equation_count_t ns s (get_or defs i 0) (get_or regcounts i 0))) ≡ cond x [] (origin_t o m (first_t ns s defs receivers regcounts count from i) (equation_count_t ns s (get_or defs i 0) (get_or regcounts i 0)))
        go true g = refl
        go false g = ap (λ f. origin_t o m f (equation_count_t ns s (get_or defs i 0) (get_or regcounts i 0))) (counted-first r e h (λ q. let w : ◌≡◌ {A = ℕ} (cond (eqb o absent) 0 1) 1 = ap (λ (x : Bool). cond x 0 1) g in omega (arith, q, w)))

    pub given-put : (r : Counted) (old : List ℕ) (z w : State) → r ≡ counted_t ns s defs receivers regcounts count from d i → Right d i → w ≡ render old (given_origin_t ns s defs regcounts r.first i) z → w ≡ render old (own_origin_t ns s defs receivers regcounts count from i) z
    given-put r old z w e h g = g ∙ ap (λ (is : List Item). render old is z) (given-own r e h)

    -- past the machine
    pub passed-right : (r : Counted) → r ≡ passed_t ns s defs receivers regcounts d i → Right d i → Right r (i + 1)
    unfolding passed_t before_t
    passed-right r e h =
        let f = adds_equations_t ns s defs receivers regcounts d.node in
        let z : 0 + i ≡ i = omega arith in
        let a : total_t f (i + 1) 0 ≡ total_t f i 0 + f i = ap (λ y. total_t f y 0) (add-one i) ∙ total-end f i 0 ∙ ap (λ y. total_t f i 0 + f y) z in
        subst (λ (y : Counted). Right y (i + 1)) (sym e) (omega (arith, h, a))

pub passed_is : (ns : List Name) (s defs receivers regcounts : List ℕ) (d : Counted) (i b : ℕ) → b ≡ adds_equations_t ns s defs receivers regcounts d.node i → counted d.node (d.first + b) ≡ passed_t ns s defs receivers regcounts d i
unfolding passed_t
passed_is ns s defs receivers regcounts d i b e = ap (λ y. counted d.node (d.first + y)) e
