-- Internal: nothing here has to be believed; laws tie it to what docs/TRUSTED.md lists.
-- What machines bring to nodes, as the code counts and writes it: by the tables, with the machines' own parts as they stand in the bytes.
use Rattle.std.specs.Prelude.{ℕ, zero, suc, ◌+◌, ◌*◌, ◌-◌, List, [], ◌∷◌, ◌++◌, cond, get_or, eqb, ltb}
use Rattle.wire.specs.Bytes.{two, word_range}
use Rattle.wire.specs.Code.{onward}
use Rattle.std.specs.Prelude.{Ok}
use Rattle.pack_rules.specs.Limits.{absent}
use Rattle.pack_rules.specs.Names.{Name}
use Rattle.pack_rules.specs.Read.{equations_in, ports_in}
use Rattle.pack.specs.Verdict.{offset_of}
use Rattle.pack_rules.specs.Write.{Item, each, port_items, raw}
use Rattle.machines.specs.declared.sections.Counted.{Counted}
use Rattle.machines.specs.ResolvedIn.{end_of}
use Rattle.machines.specs.CheckedReads.{byte_in, number_in, with}
use Rattle.machines.specs.Tables.{outputs_in}
use Rattle.machines.specs.Layout.{slice_of}
use Rattle.machine_rules.specs.Lower.{region_locals}
use Rattle.machines.specs.Locals.{inner_locals}
use Rattle.machines.specs.EmitAt.{pack_name}

-- a sum over n indexes from i on; items of n indexes from i on
unfoldable pub total_t : (ℕ → ℕ) → ℕ → ℕ → ℕ
total_t f zero i = 0
total_t f (suc n) i = f i + total_t f n (suc i)

unfoldable pub each_t : (ℕ → List Item) → ℕ → ℕ → List Item
each_t f zero i = []
each_t f (suc n) i = f i ++ each_t f n (suc i)

-- counts of a pack are words: nothing larger is looked at
unfoldable pub small_of : ℕ → ℕ
small_of k = cond (ltb k word_range) k 0

-- two for the top one of k regions, three for each other one, and `own` more
unfoldable pub made_of : ℕ → ℕ → ℕ
made_of k own = (2 + 3 * (small_of k - 1)) + small_of own

-- the regions of the machine of index i
unfoldable pub regions_t : List ℕ → ℕ → ℕ
regions_t regcounts i = small_of (get_or regcounts i 0)

-- whether the machine drawn there has an owner, as a number
unfoldable pub owned_t : List ℕ → List ℕ → ℕ → ℕ
owned_t s defs i = with (number_in s (get_or defs i 0)) λ m p. with (number_in s p) λ o q. cond (eqb o absent) 0 1

-- how many equations a node has before some machine
abbrev pub counted : ℕ → ℕ → Counted
counted k f = record { node = k; first = f }

-- the origin of a machine: by the numbers of its owner's and its own name, of its first equation, and of its equations
unfoldable pub origin_t : ℕ → ℕ → ℕ → ℕ → List Item
origin_t o m f e = raw (two o) ∷ raw (0 ∷ []) ∷ raw (two m) ∷ raw (two f) ∷ raw (two (f + e)) ∷ raw (two 0) ∷ []

module _ (ns : List Name) (s : List ℕ) where
  -- from a machine to its own locals
  unfoldable pub locals_in : ℕ → ℕ
  locals_in at = with (number_in s at) λ m p. end_of (ports_in ns s (outputs_in ns s p))

  -- how many equations and locals the machine drawn at `at` makes with k regions
  unfoldable pub equation_count_t : ℕ → ℕ → ℕ
  equation_count_t at k = with (number_in s at) λ m p. with (number_in s (outputs_in ns s p)) λ v q. made_of k v

  unfoldable pub local_count_t : ℕ → ℕ → ℕ
  local_count_t at k = with (number_in s (locals_in at)) λ v q. made_of k v

  -- its locals: its own ones as they stand, then those of its regions
  unfoldable pub locals_t : List ℕ → ℕ → ℕ → List Item
  locals_t offsets at k =
      with (number_in s at) λ m p.
      with (number_in s (locals_in at)) λ v b.
      raw (slice_of s b (end_of (ports_in ns s (locals_in at)) - b))
      ∷ (each port_items (region_locals (pack_name s offsets m) 0) ++ each port_items (inner_locals (pack_name s offsets m) 1 (small_of k - 1)))

  -- from a node to its locals, to its equations
  unfoldable pub node_locals_in : ℕ → ℕ
  node_locals_in at = with (number_in s at) λ m p. with (byte_in s p) λ k q. offset_of (onward (ports_in ns s) (onward (ports_in ns s) (Ok q)))

  unfoldable pub node_equations_in : ℕ → ℕ
  node_equations_in at = end_of (ports_in ns s (node_locals_in at))

  -- how many equations the node k of n nodes from `at` on has, 0 past them
  unfoldable pub old_t : ℕ → ℕ → ℕ → ℕ
  old_t zero at k = 0
  old_t (suc n) at zero = with (number_in s (node_equations_in at)) λ v q. small_of v
  old_t (suc n) at (suc k) = old_t n (end_of (equations_in ns s (node_equations_in at))) k

  -- the origin of the machine i, where it has an owner and f equations come before it
  unfoldable pub given_origin_t : List ℕ → List ℕ → ℕ → ℕ → List Item
  given_origin_t defs regcounts f i =
      with (number_in s (get_or defs i 0)) λ m p.
      with (number_in s p) λ o q.
      cond (eqb o absent) [] (origin_t o m f (equation_count_t (get_or defs i 0) (get_or regcounts i 0)))

  module _ (defs receivers regcounts : List ℕ) where
    -- how many of them the machine of index i brings to the node k
    unfoldable pub adds_equations_t : ℕ → ℕ → ℕ
    adds_equations_t k i = cond (eqb (get_or receivers i 0) k) (equation_count_t (get_or defs i 0) (get_or regcounts i 0)) 0

    -- how many locals it brings there
    unfoldable pub adds_locals_t : ℕ → ℕ → ℕ
    adds_locals_t k i = cond (eqb (get_or receivers i 0) k) (local_count_t (get_or defs i 0) (get_or regcounts i 0)) 0

    -- the locals that it brings
    unfoldable pub added_locals_t : List ℕ → ℕ → ℕ → List Item
    added_locals_t offsets k i = cond (eqb (get_or receivers i 0) k) (locals_t offsets (get_or defs i 0) (get_or regcounts i 0)) []

    -- how many equations the node k has before the machine i, where `count` old nodes stand from `from` on
    unfoldable pub before_t : ℕ → ℕ → ℕ → ℕ → ℕ
    before_t count from k i = old_t count from k + total_t (adds_equations_t k) i 0

    -- how many its own node has before it
    unfoldable pub first_t : ℕ → ℕ → ℕ → ℕ
    first_t count from i = before_t count from (get_or receivers i 0) i

    -- its origin, where it has an owner
    unfoldable pub own_origin_t : ℕ → ℕ → ℕ → List Item
    own_origin_t count from i = given_origin_t defs regcounts (first_t count from i) i

    -- what is counted for the machine i, where d was counted before: anew only where its owner is another node
    unfoldable pub turned_t : ℕ → ℕ → Counted → ℕ → ℕ → Counted
    turned_t count from d k i = cond (eqb d.node k) d (counted k (before_t count from k i))

    -- the same by the tables: where the machine has no owner, d stays
    unfoldable pub counted_t : ℕ → ℕ → Counted → ℕ → Counted
    counted_t count from d i = cond (eqb (owned_t s defs i) 0) d (turned_t count from d (get_or receivers i 0) i)

    -- the same past the machine i
    unfoldable pub passed_t : Counted → ℕ → Counted
    passed_t d i = counted d.node (d.first + adds_equations_t d.node i)
