-- Internal: nothing here has to be believed; laws tie it to what docs/TRUSTED.md lists.
-- The lowered package as the code writes it, by the tables of machines: `eqs i` and `ens i` are the equations and the enums of the machine i.
use Rattle.std.specs.Prelude.{ℕ, zero, suc, ◌+◌, ◌-◌, List, [], ◌∷◌, ◌++◌, cond, get_or, eqb}
use Rattle.wire.specs.Bytes.{two}
use Rattle.pack_rules.specs.Names.{Name}
use Rattle.pack_rules.specs.Read.{equations_in}
use Rattle.pack_rules.specs.Write.{Item, raw}
use Rattle.pack.specs.declared.record.Pack.{Pack}
use Rattle.machines.specs.ResolvedIn.{end_of}
use Rattle.machines.specs.CheckedReads.{number_in, with}
use Rattle.machines.specs.Layout.{slice_of}
use Rattle.machines.specs.AddedAt.{adds_equations_t, each_t, node_equations_in, own_origin_t, owned_t, regions_t, small_of, total_t}
use Rattle.machines.specs.NodeHeads.{new_head_t, old_head_t}

-- the equations that the machine i brings to the node k
unfoldable pub added_equations_t : List ℕ → (ℕ → List Item) → ℕ → ℕ → List Item
added_equations_t receivers eqs k i = cond (eqb (get_or receivers i 0) k) (eqs i) []

module _ (ns : List Name) (s defs receivers regcounts offsets : List ℕ) (n : ℕ) where
  module _ (eqs : ℕ → List Item) where
    -- the equations of the node k: `own` ones that stand from `from` up to `to`, and those that n machines bring
    unfoldable pub node_equations_t : ℕ → ℕ → ℕ → ℕ → List Item
    node_equations_t k own from to =
        raw (two (small_of own + total_t (adds_equations_t ns s defs receivers regcounts k) n 0))
        ∷ raw (slice_of s from (to - from))
        ∷ each_t (added_equations_t receivers eqs k) n 0

    -- the node k that stands at `at`
    unfoldable pub old_node_t : ℕ → ℕ → List Item
    old_node_t k at =
        old_head_t ns s defs receivers regcounts offsets n k at
        ++ with (number_in s (node_equations_in ns s at)) λ v b. node_equations_t k v b (end_of (equations_in ns s (node_equations_in ns s at)))

    -- c nodes from `at` on, the first of them of index k
    unfoldable pub old_nodes_t : ℕ → ℕ → ℕ → List Item
    old_nodes_t zero k at = []
    old_nodes_t (suc c) k at = old_node_t k at ++ old_nodes_t c (suc k) (end_of (equations_in ns s (node_equations_in ns s at)))

    -- the node that the machine i begins, where it has no owner
    unfoldable pub new_node_t : ℕ → List Item
    new_node_t i =
        cond (eqb (owned_t s defs i) 0)
        (new_head_t ns s defs receivers regcounts offsets n (get_or receivers i 0) (get_or defs i 0) ++ node_equations_t (get_or receivers i 0) 0 0 0) []

    -- all nodes, whose count stands at `at`
    unfoldable pub nodes_t : ℕ → List Item
    nodes_t at =
        with (number_in s at) λ c b.
        raw (two (small_of c + (n - total_t (owned_t s defs) n 0))) ∷ (old_nodes_t c 0 b ++ each_t new_node_t n 0)

  -- all enums: those from `at` on up to `to`, after their count, and those of the machines
  unfoldable pub enums_part_t : (ℕ → List Item) → ℕ → ℕ → List Item
  enums_part_t ens at to =
      with (number_in s at) λ c b. raw (two (small_of c + total_t (regions_t regcounts) n 0)) ∷ raw (slice_of s b (to - b)) ∷ each_t ens n 0

  -- all origins: those from `at` on up to `to`, after their count, and those of the machines; the count of nodes stands at `nodes`
  unfoldable pub origins_part_t : ℕ → ℕ → ℕ → List Item
  origins_part_t at to nodes =
      with (number_in s at) λ c b.
      with (number_in s nodes) λ o f.
      raw (two (small_of c + total_t (owned_t s defs) n 0)) ∷ raw (slice_of s b (to - b)) ∷ each_t (own_origin_t ns s defs receivers regcounts o f) n 0

  -- all that follows the names: no machines are left, activations stay
  unfoldable pub sections_t : (ℕ → List Item) → (ℕ → List Item) → Pack → List Item
  sections_t eqs ens k =
      enums_part_t ens k.enums k.nodes
      ++ (nodes_t eqs k.nodes
      ++ (raw (two 0) ∷ raw (slice_of s k.activations (k.origins - k.activations)) ∷ origins_part_t k.origins k.end k.nodes))
