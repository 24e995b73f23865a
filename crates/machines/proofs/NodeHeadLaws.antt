-- Laws for the code that writes a node up to its equations.
use Prim.Native.Nat.{ℕ, ◌+◌, ◌-◌}
use mathlib.Core.List.{List, [], ◌∷◌}
use mathlib.Core.Path.{◌≡◌, refl, ap, ◌∙◌}
use Rattle.wire.specs.Bytes.{two}
use Rattle.wire.specs.Writer.{State, put, puts}
use Rattle.pack_rules.specs.Names.{Name}
use Rattle.pack_rules.specs.Read.{ports_in}
use Rattle.pack_rules.specs.Write.{Item, raw}
use Rattle.pack.specs.Intern.{put_item, render}
use Rattle.wire.specs.declared.answer.Number.{Number}
use Rattle.machines.specs.ResolvedIn.{end_of}
use Rattle.machines.specs.CheckedReads.{number_in, with}
use Rattle.machines.specs.Layout.{slice_of}
use Rattle.machines.specs.AddedAt.{added_locals_t, adds_locals_t, each_t, locals_in, node_equations_in, node_locals_in, small_of, total_t}
use Rattle.machines.specs.NodeHeads.{new_head_t, node_locals_t, old_head_t}
use Rattle.machines.proofs.CheckedReadLaws.{on}

module _ (ns : List Name) (s defs receivers regcounts offsets : List ℕ) (n k : ℕ) (old : List ℕ) where
  pub node-locals-put : (own from to o m : ℕ) (h : List ℕ) (z a b w : State) → o ≡ small_of own → m ≡ total_t (adds_locals_t ns s defs receivers regcounts k) n 0 → h ≡ slice_of s from (to - from) → a ≡ puts (two (o + m)) z → b ≡ puts h a
      → w ≡ render old (each_t (added_locals_t ns s defs receivers regcounts offsets k) n 0) b → w ≡ render old (node_locals_t ns s defs receivers regcounts offsets n k own from to) z
  unfolding node_locals_t render put_item
  node-locals-put own from to o m h z a b w eo em eh ha hb hw =
      hw
      ∙ ap (render old (each_t (added_locals_t ns s defs receivers regcounts offsets k) n 0)) (hb ∙ ap (puts h) ha)
      ∙ (λ j. render old (each_t (added_locals_t ns s defs receivers regcounts offsets k) n 0) (puts (eh j) (puts (two (eo j + em j)) z)))

  pub old-head-put : (at l e : ℕ) (c : Number) (h : List ℕ) (z a w : State) → l ≡ node_locals_in ns s at → e ≡ end_of (ports_in ns s l) → c ≡ number_in s l → h ≡ slice_of s at (l - at) → a ≡ puts h z
      → w ≡ render old (node_locals_t ns s defs receivers regcounts offsets n k c.value c.next e) a → w ≡ render old (old_head_t ns s defs receivers regcounts offsets n k at) z
  unfolding old_head_t node_equations_in render put_item
  old-head-put at l e c h z a w el ee ec eh ha hw =
      let d = eh ∙ ap (λ y. slice_of s at (y - at)) el in
      let f = ee ∙ ap (λ y. end_of (ports_in ns s y)) el in
      hw
      ∙ (λ j. render old (node_locals_t ns s defs receivers regcounts offsets n k c.value c.next (f j)) ((ha ∙ ap (λ y. puts y z) d) j))
      ∙ ap (λ (is : List Item). render old is (puts (slice_of s at (node_locals_in ns s at - at)) z))
      (on c (number_in s (node_locals_in ns s at)) (λ v b. node_locals_t ns s defs receivers regcounts offsets n k v b (node_equations_in ns s at)) _ (ec ∙ ap (number_in s) el) refl)

  pub new-head-put : (at : ℕ) (m o : Number) (l : ℕ) (h : List ℕ) (z a b c w : State) → m ≡ number_in s at → o ≡ number_in s m.next → l ≡ locals_in ns s at → h ≡ slice_of s o.next (l - o.next)
      → a ≡ puts (two m.value) z → b ≡ put 1 a → c ≡ puts h b → w ≡ render old (node_locals_t ns s defs receivers regcounts offsets n k 0 0 0) c → w ≡ render old (new_head_t ns s defs receivers regcounts offsets n k at) z
  unfolding new_head_t render put_item puts
  new-head-put at m o l h z a b c w em eo el eh ha hb hc hw =
      let d = eh ∙ ap (λ y. slice_of s o.next (y - o.next)) el in
      hw
      ∙ ap (render old (node_locals_t ns s defs receivers regcounts offsets n k 0 0 0)) (hc ∙ (λ j. puts (d j) ((hb ∙ ap (put 1) ha) j)))
      ∙ ap (λ (is : List Item). render old is z)
      (on m (number_in s at) (λ m p. with (number_in s p) (λ o b. raw (two m) ∷ raw (1 ∷ []) ∷ raw (slice_of s b (locals_in ns s at - b)) ∷ node_locals_t ns s defs receivers regcounts offsets n k 0 0 0)) _ em
      (on o (number_in s m.next) (λ o b. raw (two m.value) ∷ raw (1 ∷ []) ∷ raw (slice_of s b (locals_in ns s at - b)) ∷ node_locals_t ns s defs receivers regcounts offsets n k 0 0 0) _ eo refl))
