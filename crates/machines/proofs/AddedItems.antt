-- Laws for the code that finds nodes' parts and writes what machines bring, step by step.
use Prim.Native.Nat.{ℕ, zero, suc, ◌+◌, ◌-◌, ◌<◌, ◌≤◌}
use native.Mathlib.Omega.{arith}
use mathlib.Core.List.{List, [], ◌∷◌, ◌++◌}
use mathlib.Core.Path.{◌≡◌, refl, sym, ap, ◌∙◌}
use lib.ListN.{get_or}
use borrow.Author.Tests.{eq-eqb, ne_eqb}
use Rattle.wire.specs.Bytes.{two}
use Rattle.wire.specs.Code.{Skipped, onward}
use Rattle.wire.specs.Writer.{State, put, puts}
use Rattle.std.specs.Prelude.{Ok}
use Rattle.pack_rules.specs.Names.{Name}
use Rattle.pack_rules.specs.Read.{equations_in, ports_in}
use Rattle.pack.specs.Verdict.{offset_of}
use Rattle.pack_rules.specs.Write.{Item, each, port_items, raw}
use Rattle.pack.specs.Intern.{put_item, render}
use Rattle.pack.proofs.Interns.{render-append}
use Rattle.wire.specs.declared.answer.Number.{Number}
use Rattle.machines.specs.ResolvedIn.{end_of}
use Rattle.machines.specs.CheckedReads.{byte_in, number_in}
use Rattle.machines.specs.Layout.{slice_of}
use Rattle.machine_rules.specs.Lower.{region_locals}
use Rattle.machines.specs.Locals.{inner_locals}
use Rattle.machines.specs.EmitAt.{pack_name}
use Rattle.machines.specs.AddedAt.{added_locals_t, equation_count_t, given_origin_t, locals_in, locals_t, node_equations_in, node_locals_in, old_t, origin_t, small_of}
use Rattle.machines.proofs.CheckedReadLaws.{on}

render-none : (old : List ℕ) (z : State) → z ≡ render old [] z
unfolding render
render-none old z = refl

-- an origin's numbers
pub origin-put : (old : List ℕ) (o m f e : ℕ) (z : State) → puts (two 0) (puts (two (f + e)) (puts (two f) (puts (two m) (put 0 (puts (two o) z))))) ≡ render old (origin_t o m f e) z
unfolding origin_t render put_item puts
origin-put old o m f e z = refl

module _ (ns : List Name) (s : List ℕ) where
  -- nodes
  pub node-locals : (at : ℕ) (m k : Number) (b : Skipped) (r : ℕ) → m ≡ number_in s at → k ≡ byte_in s m.next → b ≡ onward (ports_in ns s) (onward (ports_in ns s) (Ok k.next)) → r ≡ offset_of b → r ≡ node_locals_in ns s at
  unfolding node_locals_in
  node-locals at m k b r x y z v = on m _ _ r x (on k _ _ r y (v ∙ ap offset_of z))

  pub node-equations : (at a r : ℕ) → a ≡ node_locals_in ns s at → r ≡ end_of (ports_in ns s a) → r ≡ node_equations_in ns s at
  unfolding node_equations_in
  node-equations at a r x y = y ∙ ap (λ k. end_of (ports_in ns s k)) x

  pub old-here : (n at k e : ℕ) (c : Number) (r z : ℕ) → 0 < n → e ≡ node_equations_in ns s at → k ≡ 0 → c ≡ number_in s e → r ≡ small_of c.value → old_t ns s n at k ≡ z → r ≡ z
  unfolding old_t
  old-here zero at k e c r z l x y w v h = absurd (omega arith)
  old-here (suc n) at zero e c r z l x y w v h = on c _ _ r (w ∙ ap (number_in s) x) v ∙ h
  old-here (suc n) at (suc k) e c r z l x y w v h = absurd (omega arith)

  pub old-more : (n at k e p z : ℕ) → 0 < n → e ≡ node_equations_in ns s at → (k ≡ 0 → ⊥) → p ≡ end_of (equations_in ns s e) → old_t ns s n at k ≡ z → old_t ns s (n - 1) p (k - 1) ≡ z
  unfolding old_t
  old-more zero at k e p z l x y w h = absurd (omega arith)
  old-more (suc n) at zero e p z l x y w h = absurd (y refl)
  old-more (suc n) at (suc k) e p z l x y w h =
      let i : suc n - 1 ≡ n = omega arith in
      let j : suc k - 1 ≡ k = omega arith in
      ap (λ y. old_t ns s y p (suc k - 1)) i
      ∙ ap (λ y. old_t ns s n p y) j
      ∙ ap (λ y. old_t ns s n y k) (w ∙ ap (λ y. end_of (equations_in ns s y)) x)
      ∙ h

  pub old-done : (n at k z : ℕ) → n ≤ 0 → old_t ns s n at k ≡ z → 0 ≡ z
  unfolding old_t
  old-done zero at k z l h = h
  old-done (suc n) at k z l h = absurd (omega arith)

  -- a machine's locals
  module _ (offsets : List ℕ) (at k : ℕ) (m : Number) (n : List ℕ) (a e : ℕ) (l : Number) (b : List ℕ) (i : ℕ)
      (em : m ≡ number_in s at) (en : n ≡ pack_name s offsets m.value) (ea : a ≡ locals_in ns s at) (ee : e ≡ end_of (ports_in ns s a)) (el : l ≡ number_in s a)
      (eb : b ≡ slice_of s l.next (e - l.next)) (ei : i ≡ small_of k - 1) where
    pub locals-parts : raw b ∷ (each port_items (region_locals n 0) ++ each port_items (inner_locals n 1 i)) ≡ locals_t ns s offsets at k
    unfolding locals_t
    locals-parts =
        let d = eb ∙ ap (λ y. slice_of s l.next (y - l.next)) (ee ∙ ap (λ y. end_of (ports_in ns s y)) ea) in
        on m _ _ _ em (on l _ _ _ (el ∙ ap (number_in s) ea) (λ j. raw (d j) ∷ (each port_items (region_locals (en j) 0) ++ each port_items (inner_locals (en j) 1 (ei j)))))

    pub locals-put : (old : List ℕ) (z x y w : State) → x ≡ puts b z → y ≡ render old (each port_items (region_locals n 0)) x → w ≡ render old (each port_items (inner_locals n 1 i)) y → w ≡ render old (locals_t ns s offsets at k) z
    unfolding render put_item
    locals-put old z x y w hx hy hw =
        hw
        ∙ ap (render old (each port_items (inner_locals n 1 i))) (hy ∙ ap (render old (each port_items (region_locals n 0))) hx)
        ∙ sym (render-append old (each port_items (region_locals n 0)) (each port_items (inner_locals n 1 i)) (puts b z))
        ∙ ap (λ (is : List Item). render old is z) locals-parts

  module _ (defs receivers regcounts : List ℕ) (i : ℕ) where
    module _ (offsets : List ℕ) (k a m r : ℕ) (ea : a ≡ get_or receivers i 0) (em : m ≡ get_or defs i 0) (er : r ≡ get_or regcounts i 0) (old : List ℕ) where
      pub brings-put : (z w : State) → a ≡ k → w ≡ render old (locals_t ns s offsets m r) z → w ≡ render old (added_locals_t ns s defs receivers regcounts offsets k i) z
      unfolding added_locals_t
      brings-put z w h e = rw (← ea, eq-eqb a k h, ← em, ← er) e

      pub brings-nothing : (z : State) → (a ≡ k → ⊥) → z ≡ render old (added_locals_t ns s defs receivers regcounts offsets k i) z
      unfolding added_locals_t render
      brings-nothing z h = rw (← ea, ne_eqb a k h) refl

  -- the origin of a machine
  module _ (defs regcounts : List ℕ) (i f at : ℕ) (m o : Number) (ea : at ≡ get_or defs i 0) (em : m ≡ number_in s at) (eo : o ≡ number_in s m.next) where
    origin-none : o.value ≡ 65535 → [] ≡ given_origin_t ns s defs regcounts f i
    unfolding given_origin_t
    origin-none h = on m _ _ [] (em ∙ ap (number_in s) ea) (on o _ _ [] eo (rw (eq-eqb o.value 65535 h)))

    pub no_origin : (old : List ℕ) (z : State) → o.value ≡ 65535 → z ≡ render old (given_origin_t ns s defs regcounts f i) z
    no_origin old z h = render-none old z ∙ ap (λ (is : List Item). render old is z) (origin-none h)

    pub its-origin : (g e : ℕ) (old : List ℕ) (z w : State) → (o.value ≡ 65535 → ⊥) → g ≡ get_or regcounts i 0 → e ≡ equation_count_t ns s at g
        → w ≡ render old (origin_t o.value m.value f e) z → w ≡ render old (given_origin_t ns s defs regcounts f i) z
    unfolding given_origin_t
    its-origin g e old z w h eg ee hw =
        let d : e ≡ equation_count_t ns s (get_or defs i 0) (get_or regcounts i 0) = ee ∙ (λ j. equation_count_t ns s (ea j) (eg j)) in
        hw ∙ ap (λ (is : List Item). render old is z)
        (on m _ _ _ (em ∙ ap (number_in s) ea) (on o _ _ _ eo (rw (ne_eqb o.value 65535 h) (λ j. origin_t o.value m.value f (d j)))))
