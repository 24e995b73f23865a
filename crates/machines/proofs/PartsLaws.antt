-- Laws for the code that writes nodes with all that goes to them, and the sections.
use Prim.Native.Nat.{ℕ, zero, suc, ◌+◌, ◌-◌, ◌≤◌}
use native.Mathlib.Omega.{arith}
use native.Mathlib.Numerals.{add-one}
use mathlib.Core.List.{List, [], ◌∷◌, ◌++◌}
use mathlib.Core.Bool.{Bool, cond}
use mathlib.Core.Path.{◌≡◌, refl, sym, ap, ◌∙◌}
use lib.ListN.{get_or}
use borrow.Author.Tests.{eq-eqb, ne_eqb}
use Rattle.wire.specs.Bytes.{two}
use Rattle.wire.specs.Writer.{State, puts}
use Rattle.pack_rules.specs.Names.{Name}
use Rattle.pack_rules.specs.Read.{equations_in}
use Rattle.pack_rules.specs.Write.{Item, raw}
use Rattle.pack.specs.Intern.{put_item, render}
use Rattle.pack.specs.declared.record.Pack.{Pack}
use Rattle.pack.proofs.Interns.{render-append}
use Rattle.wire.specs.declared.answer.Number.{Number}
use Rattle.machines.specs.ResolvedIn.{end_of}
use Rattle.machines.specs.CheckedReads.{number_in, with}
use Rattle.machines.specs.Layout.{slice_of}
use Rattle.machines.specs.AddedAt.{adds_equations_t, each_t, node_equations_in, own_origin_t, owned_t, regions_t, small_of, total_t}
use Rattle.machines.specs.NodeHeads.{new_head_t, old_head_t}
use Rattle.machines.specs.WriteNodesAt.{added_equations_t, enums_part_t, new_node_t, node_equations_t, nodes_t, old_node_t, old_nodes_t, origins_part_t, sections_t}
use Rattle.machines.proofs.CheckedReadLaws.{on}

module _ (ns : List Name) (s defs receivers regcounts offsets : List ℕ) (n : ℕ) where
  module _ (eqs : ℕ → List Item) (old : List ℕ) where
    pub node-equations-put : (k own from to o m : ℕ) (h : List ℕ) (z a b w : State) → o ≡ small_of own → m ≡ total_t (adds_equations_t ns s defs receivers regcounts k) n 0 → h ≡ slice_of s from (to - from) → a ≡ puts (two (o + m)) z → b ≡ puts h a
        → w ≡ render old (each_t (added_equations_t receivers eqs k) n 0) b → w ≡ render old (node_equations_t ns s defs receivers regcounts offsets n eqs k own from to) z
    unfolding node_equations_t render put_item
    node-equations-put k own from to o m h z a b w eo em eh ha hb hw =
        hw
        ∙ ap (render old (each_t (added_equations_t receivers eqs k) n 0)) (hb ∙ ap (puts h) ha)
        ∙ (λ j. render old (each_t (added_equations_t receivers eqs k) n 0) (puts (eh j) (puts (two (eo j + em j)) z)))

    pub old-node-put : (k at e y : ℕ) (c : Number) (z a w : State) → e ≡ node_equations_in ns s at → y ≡ end_of (equations_in ns s e) → c ≡ number_in s e → a ≡ render old (old_head_t ns s defs receivers regcounts offsets n k at) z
        → w ≡ render old (node_equations_t ns s defs receivers regcounts offsets n eqs k c.value c.next y) a → w ≡ render old (old_node_t ns s defs receivers regcounts offsets n eqs k at) z
    unfolding old_node_t
    old-node-put k at e y c z a w ee ey ec ha hw =
        let f : y ≡ end_of (equations_in ns s (node_equations_in ns s at)) = ey ∙ ap (λ x. end_of (equations_in ns s x)) ee in
        hw
        ∙ (λ j. render old (node_equations_t ns s defs receivers regcounts offsets n eqs k c.value c.next (f j)) (ha j))
        ∙ sym (render-append old (old_head_t ns s defs receivers regcounts offsets n k at) (node_equations_t ns s defs receivers regcounts offsets n eqs k c.value c.next (end_of (equations_in ns s (node_equations_in ns s at)))) z)
        ∙ ap (λ (is : List Item). render old (old_head_t ns s defs receivers regcounts offsets n k at ++ is) z)
        (on c (number_in s (node_equations_in ns s at)) (λ v b. node_equations_t ns s defs receivers regcounts offsets n eqs k v b (end_of (equations_in ns s (node_equations_in ns s at)))) _ (ec ∙ ap (number_in s) ee) refl)

    olds-step : (c k p : ℕ) (z : State) → render old (old_nodes_t ns s defs receivers regcounts offsets n eqs (suc c) k p) z ≡ render old (old_nodes_t ns s defs receivers regcounts offsets n eqs c (suc k) (end_of (equations_in ns s (node_equations_in ns s p)))) (render old (old_node_t ns s defs receivers regcounts offsets n eqs k p) z)
    unfolding old_nodes_t
    olds-step c k p z = render-append old (old_node_t ns s defs receivers regcounts offsets n eqs k p) (old_nodes_t ns s defs receivers regcounts offsets n eqs c (suc k) (end_of (equations_in ns s (node_equations_in ns s p)))) z

    -- the loop over nodes that stand: one more, and the end
    pub olds-more : (c d k p e q : ℕ) (x z y : State) → c ≡ suc d → x ≡ render old (old_node_t ns s defs receivers regcounts offsets n eqs k p) z → e ≡ node_equations_in ns s p → q ≡ end_of (equations_in ns s e)
        → render old (old_nodes_t ns s defs receivers regcounts offsets n eqs c k p) z ≡ y → render old (old_nodes_t ns s defs receivers regcounts offsets n eqs d (k + 1) q) x ≡ y
    olds-more c d k p e q x z y l hw ee eq h =
        let f : q ≡ end_of (equations_in ns s (node_equations_in ns s p)) = eq ∙ ap (λ x. end_of (equations_in ns s x)) ee in
        (λ j. render old (old_nodes_t ns s defs receivers regcounts offsets n eqs d (add-one k j) (f j)) (hw j))
        ∙ sym (olds-step d k p z) ∙ ap (λ (x : ℕ). render old (old_nodes_t ns s defs receivers regcounts offsets n eqs x k p) z) (sym l) ∙ h

    pub olds-none : (c k p : ℕ) (z y : State) → c ≤ 0 → render old (old_nodes_t ns s defs receivers regcounts offsets n eqs c k p) z ≡ y → z ≡ y
    unfolding old_nodes_t render
    olds-none zero k p z y l h = h
    olds-none (suc c) k p z y l h = absurd (omega arith)

    -- the node that a machine begins, and none
    pub new-node-put : (i o k at : ℕ) (z w : State) → o ≡ owned_t s defs i → k ≡ get_or receivers i 0 → at ≡ get_or defs i 0 → o ≡ 0 → w ≡ render old (new_head_t ns s defs receivers regcounts offsets n k at ++ node_equations_t ns s defs receivers regcounts offsets n eqs k 0 0 0) z → w ≡ render old (new_node_t ns s defs receivers regcounts offsets n eqs i) z
    unfolding new_node_t
    new-node-put i o k at z w eo ek et h hw =
        hw
        ∙ (λ j. render old (new_head_t ns s defs receivers regcounts offsets n (ek j) (et j) ++ node_equations_t ns s defs receivers regcounts offsets n eqs (ek j) 0 0 0) z)
        ∙ ap (λ (b : Bool). render old (cond b (new_head_t ns s defs receivers regcounts offsets n (get_or receivers i 0) (get_or defs i 0) ++ node_equations_t ns s defs receivers regcounts offsets n eqs (get_or receivers i 0) 0 0 0) []) z)
        (sym (eq-eqb (owned_t s defs i) 0 (sym eo ∙ h)))

    pub no-new-node : (i o : ℕ) (z : State) → o ≡ owned_t s defs i → (o ≡ 0 → ⊥) → z ≡ render old (new_node_t ns s defs receivers regcounts offsets n eqs i) z
    unfolding new_node_t render
    no-new-node i o z eo h = rw (ne_eqb (owned_t s defs i) 0 (λ x. h (eo ∙ x))) refl

    pub nodes-put : (at : ℕ) (c : Number) (o g : ℕ) (z a b w : State) → c ≡ number_in s at → o ≡ small_of c.value → g ≡ n - total_t (owned_t s defs) n 0 → a ≡ puts (two (o + g)) z → b ≡ render old (old_nodes_t ns s defs receivers regcounts offsets n eqs c.value 0 c.next) a
        → w ≡ render old (each_t (new_node_t ns s defs receivers regcounts offsets n eqs) n 0) b → w ≡ render old (nodes_t ns s defs receivers regcounts offsets n eqs at) z
    unfolding nodes_t render put_item
    nodes-put at c o g z a b w ec eo eg ha hb hw =
        hw
        ∙ ap (render old (each_t (new_node_t ns s defs receivers regcounts offsets n eqs) n 0)) (hb ∙ ap (render old (old_nodes_t ns s defs receivers regcounts offsets n eqs c.value 0 c.next)) (ha ∙ (λ j. puts (two (eo j + eg j)) z)))
        ∙ sym (render-append old (old_nodes_t ns s defs receivers regcounts offsets n eqs c.value 0 c.next) (each_t (new_node_t ns s defs receivers regcounts offsets n eqs) n 0) _)
        ∙ ap (λ (is : List Item). render old is z)
        (on c (number_in s at) (λ v b. raw (two (small_of v + (n - total_t (owned_t s defs) n 0))) ∷ (old_nodes_t ns s defs receivers regcounts offsets n eqs v 0 b ++ each_t (new_node_t ns s defs receivers regcounts offsets n eqs) n 0)) _ ec refl)

  module _ (old : List ℕ) where
    pub enums-part-put : (ens : ℕ → List Item) (at to : ℕ) (c : Number) (o g : ℕ) (h : List ℕ) (z a b w : State) → c ≡ number_in s at → o ≡ small_of c.value → g ≡ total_t (regions_t regcounts) n 0 → h ≡ slice_of s c.next (to - c.next) → a ≡ puts (two (o + g)) z → b ≡ puts h a
        → w ≡ render old (each_t ens n 0) b → w ≡ render old (enums_part_t ns s defs receivers regcounts offsets n ens at to) z
    unfolding enums_part_t render put_item
    enums-part-put ens at to c o g h z a b w ec eo eg eh ha hb hw =
        hw
        ∙ ap (render old (each_t ens n 0)) (hb ∙ ap (puts h) ha)
        ∙ (λ j. render old (each_t ens n 0) (puts (eh j) (puts (two (eo j + eg j)) z)))
        ∙ ap (λ (is : List Item). render old is z)
        (on c (number_in s at) (λ v b. raw (two (small_of v + total_t (regions_t regcounts) n 0)) ∷ raw (slice_of s b (to - b)) ∷ each_t ens n 0) _ ec refl)

    pub origins-part-put : (at to nodes : ℕ) (c : Number) (o : ℕ) (d : Number) (g : ℕ) (h : List ℕ) (z a b w : State) → c ≡ number_in s at → o ≡ small_of c.value → d ≡ number_in s nodes → g ≡ total_t (owned_t s defs) n 0 → h ≡ slice_of s c.next (to - c.next)
        → a ≡ puts (two (o + g)) z → b ≡ puts h a → w ≡ render old (each_t (own_origin_t ns s defs receivers regcounts d.value d.next) n 0) b → w ≡ render old (origins_part_t ns s defs receivers regcounts offsets n at to nodes) z
    unfolding origins_part_t render put_item
    origins-part-put at to nodes c o d g h z a b w ec eo ed eg eh ha hb hw =
        hw
        ∙ ap (render old (each_t (own_origin_t ns s defs receivers regcounts d.value d.next) n 0)) (hb ∙ ap (puts h) ha)
        ∙ (λ j. render old (each_t (own_origin_t ns s defs receivers regcounts d.value d.next) n 0) (puts (eh j) (puts (two (eo j + eg j)) z)))
        ∙ ap (λ (is : List Item). render old is z)
        (on c (number_in s at) (λ v b. with (number_in s nodes) (λ x f. raw (two (small_of v + total_t (owned_t s defs) n 0)) ∷ raw (slice_of s b (to - b)) ∷ each_t (own_origin_t ns s defs receivers regcounts x f) n 0)) _ ec
        (on d (number_in s nodes) (λ x f. raw (two (small_of c.value + total_t (owned_t s defs) n 0)) ∷ raw (slice_of s c.next (to - c.next)) ∷ each_t (own_origin_t ns s defs receivers regcounts x f) n 0) _ ed refl))

    two-raws : (h : List ℕ) (is : List Item) (z : State) → render old is (puts h (puts (two 0) z)) ≡ render old (raw (two 0) ∷ raw h ∷ is) z
    unfolding render put_item
    two-raws h is z = refl

    -- all sections, one after the other
    pub sections-put : (eqs ens : ℕ → List Item) (k : Pack) (h : List ℕ) (z x a b c d w : State) → x ≡ z → a ≡ render old (enums_part_t ns s defs receivers regcounts offsets n ens k.enums k.nodes) x → b ≡ render old (nodes_t ns s defs receivers regcounts offsets n eqs k.nodes) a → c ≡ puts (two 0) b
        → h ≡ slice_of s k.activations (k.origins - k.activations) → d ≡ puts h c → w ≡ render old (origins_part_t ns s defs receivers regcounts offsets n k.origins k.end k.nodes) d → w ≡ render old (sections_t ns s defs receivers regcounts offsets n eqs ens k) z
    unfolding sections_t
    sections-put eqs ens k h z x a b c d w ex ha hb hc eh hd hw =
        hw
        ∙ ap (render old (origins_part_t ns s defs receivers regcounts offsets n k.origins k.end k.nodes)) (hd ∙ (λ j. puts (eh j) (hc j)))
        ∙ two-raws (slice_of s k.activations (k.origins - k.activations)) (origins_part_t ns s defs receivers regcounts offsets n k.origins k.end k.nodes) b
        ∙ ap (render old _) (hb ∙ ap (render old (nodes_t ns s defs receivers regcounts offsets n eqs k.nodes)) (ha ∙ ap (render old (enums_part_t ns s defs receivers regcounts offsets n ens k.enums k.nodes)) ex))
        ∙ sym (render-append old (nodes_t ns s defs receivers regcounts offsets n eqs k.nodes) _ _)
        ∙ sym (render-append old (enums_part_t ns s defs receivers regcounts offsets n ens k.enums k.nodes) _ z)
