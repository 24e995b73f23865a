-- Internal: nothing here has to be believed; laws tie it to what docs/TRUSTED.md lists.
-- The tables of a call: what the code fills them with, before it reports or writes.
use Rattle.std.specs.Prelude.{ℕ, ◌<◌, ◌≤◌, List, ◌≡◌, length}
use Rattle.pack_rules.specs.Names.{Name}
use Rattle.pack_rules.specs.Syntax.{Package}
use Rattle.pack_rules.specs.Read.{read, whole}
use Rattle.pack.specs.Verdict.{SectionsAt}
use Rattle.pack.specs.declared.record.Pack.{Pack}
use Rattle.machines.specs.MemoSound.{Blank}
use Rattle.machines.specs.CheckedReads.{number_in}
use Rattle.machines.specs.Tables.{machines_placed, names_placed}
use Rattle.machines.specs.AddedAt.{small_of}
use Rattle.machines.specs.ReportAt.{EntersAll}
use Rattle.machines.specs.OwnersAt.{HasRegions, fill_t, machine_end, node_name_t, nodes_of, nth, settle_t}

-- how many nodes, how many machines the sections count
unfoldable pub node_count : List ℕ → Pack → ℕ
node_count s k = small_of (number_in s k.nodes).value

unfoldable pub machine_count : List ℕ → Pack → ℕ
machine_count s k = small_of (number_in s k.machines).value

-- tables as long as a pack asks: two bytes a name, 11 a node and 14 a machine; where machines are sought, nothing stands yet
pub record Empty (offsets to nodes defs receivers regcounts : List ℕ) : Type 0 where
  pub for_names : 32768 ≤ length offsets
  pub for_machines : 32768 ≤ length to
  pub no_machine : Blank to
  pub for_nodes : 5958 ≤ length nodes
  pub for_places : 4682 ≤ length defs
  pub for_goals : 4682 ≤ length receivers
  pub for_regions : 4682 ≤ length regcounts

-- the tables after, by those before
pub record Filled (ns : List Name) (s : List ℕ) (k : Pack) (offsets₀ to₀ nodes₀ defs₀ receivers₀ regcounts₀ offsets to nodes defs receivers regcounts : List ℕ) : Type 0 where
  pub count : ℕ
  pub names : offsets ≡ names_placed s k.names 2 0 offsets₀
  pub machines : to ≡ machines_placed ns s k.machines to₀
  pub drawn : defs ≡ fill_t (nth (machine_end ns s) (number_in s k.machines).next) (machine_count s k) 0 defs₀
  pub regions : (gs : ℕ → ℕ) → ((i : ℕ) → i < machine_count s k → HasRegions ns s offsets to (nth (machine_end ns s) (number_in s k.machines).next i) (gs i)) → regcounts ≡ fill_t gs (machine_count s k) 0 regcounts₀
  pub settled : nodes_of receivers nodes count ≡ settle_t s defs regcounts (machine_count s k) 0 (nodes_of receivers₀ (fill_t (node_name_t ns s (number_in s k.nodes).next) (node_count s k) 0 nodes₀) (node_count s k))

-- what the n machines enter into a report is known
pub record Reports (s offsets to defs regcounts receivers : List ℕ) (names n : ℕ) : Type 0 where
  pub ns : List Name
  pub count : length ns ≡ names
  pub es : ℕ → List ℕ
  pub enters : EntersAll ns s offsets to defs regcounts receivers n es

-- a pack that was opened: it reads as a package, which stands where the record says
pub record OpenedAs (s : List ℕ) (k : Pack) : Type 0 where
  pub held : Package
  pub reads : read s ≡ whole held
  pub stands : SectionsAt s k held
