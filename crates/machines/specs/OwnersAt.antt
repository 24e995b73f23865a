-- Internal: nothing here has to be believed; laws tie it to what docs/TRUSTED.md lists.
-- All machines in order, as the code settles them by tables: where each is drawn, its regions, the node it goes to.
use Rattle.std.specs.Prelude.{ℕ, zero, suc, ◌+◌, List, cond, ◌≡◌, get_or, set, eqb, ltb}
use Rattle.std.specs.Result.{result_unwrap_or}
use Rattle.pack_rules.specs.Limits.{absent}
use Rattle.pack_rules.specs.Names.{Name}
use Rattle.pack_rules.specs.Read.{equations_in}
use Rattle.machines.specs.ResolvedIn.{end_of}
use Rattle.machines.specs.CheckedReads.{number_in, with}
use Rattle.machines.specs.Tables.{initial_in, states_end}
use Rattle.machines.specs.AddedAt.{node_equations_in}
use Rattle.machines.specs.VerdictAt.{judge_at}
use Rattle.machines.specs.EmitMachineAt.{Long}

-- a table filled by the index: n entries from i on
unfoldable pub fill_t : (ℕ → ℕ) → ℕ → ℕ → List ℕ → List ℕ
fill_t f zero i t = t
fill_t f (suc n) i t = fill_t f n (suc i) (set t i (f i))

-- where the thing of index i stands, each after the one before
unfoldable pub nth : (ℕ → ℕ) → ℕ → ℕ → ℕ
nth next from zero = from
nth next from (suc i) = next (nth next from i)

module _ (ns : List Name) (s : List ℕ) where
  -- past the machine, the node at `at`
  unfoldable pub machine_end : ℕ → ℕ
  machine_end at = with (number_in s at) λ m p. states_end ns s (initial_in ns s p)

  unfoldable pub node_end : ℕ → ℕ
  node_end at = end_of (equations_in ns s (node_equations_in ns s at))

  -- the index of the name of the node of index i
  unfoldable pub node_name_t : ℕ → ℕ → ℕ
  node_name_t from i = (number_in s (nth node_end from i)).value

  -- the machine drawn at `at` has so many regions, 0 where it is refused, whatever long tables held before
  unfoldable pub HasRegions : List ℕ → List ℕ → ℕ → ℕ → Type 0
  HasRegions offsets to at g = (t reg qualified : List ℕ) → Long t reg qualified → result_unwrap_or (judge_at ns s offsets to at t reg qualified) 0 ≡ g

-- the index of the first of n entries from i on that is x, i + n where there is none
unfoldable pub find_t : List ℕ → ℕ → ℕ → ℕ → ℕ
find_t t x zero i = i
find_t t x (suc n) i = cond (eqb (get_or t i 0) x) i (find_t t x n (suc i))

-- among n nodes, where a machine of so many regions and the owner o goes: nowhere if it is refused or its owner is not there
unfoldable pub found_in : ℕ → ℕ → ℕ
found_in n k = cond (ltb k n) k absent

unfoldable pub goes_to : List ℕ → ℕ → ℕ → ℕ → ℕ
goes_to nodes n g o = cond (eqb g 0) absent (cond (eqb o absent) n (found_in n (find_t nodes o n 0)))

-- the tables while machines are settled: the node of each, the nodes' names, how many nodes
pub record Nodes : Type 0 where
  pub receivers : List ℕ
  pub nodes : List ℕ
  pub count : ℕ

abbrev pub nodes_of : List ℕ → List ℕ → ℕ → Nodes
nodes_of a b n = record { receivers = a; nodes = b; count = n }

-- a machine of the name m that goes to the node k: where that is the next one, it begins it
unfoldable pub joined : ℕ → ℕ → ℕ → Nodes → Nodes
joined i m k x = cond (eqb k x.count) (nodes_of (set x.receivers i k) (set x.nodes x.count m) (x.count + 1)) (nodes_of (set x.receivers i k) x.nodes x.count)

module _ (s defs regcounts : List ℕ) where
  -- the machine i
  unfoldable pub settled_t : ℕ → Nodes → Nodes
  settled_t i x =
      with (number_in s (get_or defs i 0)) λ m p.
      joined i m (goes_to x.nodes x.count (get_or regcounts i 0) (number_in s p).value) x

  -- n machines from the index i on
  unfoldable pub settle_t : ℕ → ℕ → Nodes → Nodes
  settle_t zero i x = x
  settle_t (suc n) i x = settle_t n (suc i) (settled_t i x)

-- whether the machine i is refused, as a number
unfoldable pub refused_t : List ℕ → ℕ → ℕ
refused_t receivers i = cond (eqb (get_or receivers i 0) absent) 1 0
