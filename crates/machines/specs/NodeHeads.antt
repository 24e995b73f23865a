-- Internal: nothing here has to be believed; laws tie it to what docs/TRUSTED.md lists.
-- A node up to its equations, as the code writes it: its own part as it stands, then the locals that machines bring.
use Rattle.std.specs.Prelude.{ℕ, ◌+◌, ◌-◌, List, [], ◌∷◌, ◌++◌}
use Rattle.wire.specs.Bytes.{two}
use Rattle.pack_rules.specs.Names.{Name}
use Rattle.pack_rules.specs.Syntax.{Node}
use Rattle.pack_rules.specs.Write.{Item, each, kind_byte, list, nm, port_items, raw}
use Rattle.machines.specs.CheckedReads.{number_in, with}
use Rattle.machine_rules.specs.Lower.{locals_of}
use Rattle.machines.specs.Sections.{Share, added_count, adds_items, continued, local_count}
use Rattle.machines.specs.Layout.{slice_of}
use Rattle.machines.specs.AddedAt.{added_locals_t, adds_locals_t, each_t, locals_in, node_equations_in, node_locals_in, small_of, total_t}

-- the part of a node before its equations, where the shares xs bring locals to the index k
unfoldable pub head_part : List Share → ℕ → Node → List Item
head_part xs k x =
    nm x.name ∷ raw (kind_byte x.kind ∷ [])
    ∷ (list port_items x.inputs
    ++ (list port_items x.outputs
    ++ continued port_items x.locals (added_count local_count k xs) (each (adds_items port_items locals_of k) xs)))

module _ (ns : List Name) (s defs receivers regcounts offsets : List ℕ) (n k : ℕ) where
  -- the locals of the node k: `own` ones that stand from `from` up to `to`, and those that n machines bring
  unfoldable pub node_locals_t : ℕ → ℕ → ℕ → List Item
  node_locals_t own from to =
      raw (two (small_of own + total_t (adds_locals_t ns s defs receivers regcounts k) n 0))
      ∷ raw (slice_of s from (to - from))
      ∷ each_t (added_locals_t ns s defs receivers regcounts offsets k) n 0

  -- the node k that stands at `at`
  unfoldable pub old_head_t : ℕ → List Item
  old_head_t at =
      raw (slice_of s at (node_locals_in ns s at - at))
      ∷ with (number_in s (node_locals_in ns s at)) λ v b. node_locals_t v b (node_equations_in ns s at)

  -- the node k that the machine drawn at `at` begins
  unfoldable pub new_head_t : ℕ → List Item
  new_head_t at =
      with (number_in s at) λ m p.
      with (number_in s p) λ o b.
      raw (two m) ∷ raw (1 ∷ []) ∷ raw (slice_of s b (locals_in ns s at - b)) ∷ node_locals_t 0 0 0
