-- Internal: nothing here has to be believed; laws tie it to what docs/TRUSTED.md lists.
-- A machine that is laid out again for what is written of it: its equations and its enums, by tables that may hold anything before.
use Rattle.std.specs.Prelude.{ℕ, ◌<◌, ◌≤◌, List, [], ◌++◌, cond, ◌≡◌, length, get_or, eqb}
use Rattle.wire.specs.Writer.{State}
use Rattle.pack_rules.specs.Names.{Name}
use Rattle.pack_rules.specs.Write.{Item}
use Rattle.pack.specs.Intern.{render}
use Rattle.machines.specs.CheckedReads.{number_in}
use Rattle.machines.specs.Tables.{outputs_in}
use Rattle.machines.specs.LayoutAt.{fed}
use Rattle.machines.specs.EmitAt.{enums_t, pack_name, regions_t}
use Rattle.machines.specs.ValueAt.{port_outputs_t}
use Rattle.machines.specs.VerdictAt.{lay_at}

-- tables as long as the limits ask, and no longer than numbers go
pub record Long (t reg qualified : List ℕ) : Type 0 where
  pub words : 7698 ≤ length t
  pub regions : 514 ≤ length reg
  pub letters : 131072 ≤ length qualified
  pub few_words : length t ≤ 4294967296
  pub few_regions : length reg ≤ 4294967296
  pub few_letters : length qualified ≤ 4294967296

module _ (ns : List Name) (s offsets to : List ℕ) where
  -- the equations of the machine drawn at `at`: those of its regions, then those of its outputs
  unfoldable pub equations_at : ℕ → List ℕ → List ℕ → List ℕ → List Item
  equations_at at t reg qualified =
      fed (lay_at ns s offsets to at t reg qualified) λ b.
      regions_t s offsets b.t b.qualified ns b.reg 0 b.c.regions ++ port_outputs_t s b.t b.qualified ns (outputs_in ns s (number_in s at).next)

  -- those of the machine i, where it goes to the node k
  unfoldable pub added_at : List ℕ → List ℕ → ℕ → ℕ → List ℕ → List ℕ → List ℕ → List Item
  added_at defs receivers k i t reg qualified = cond (eqb (get_or receivers i 0) k) (equations_at (get_or defs i 0) t reg qualified) []

  -- the enums of the machine drawn at `at`
  unfoldable pub enums_at : ℕ → List ℕ → List ℕ → List ℕ → List Item
  enums_at at t reg qualified =
      fed (lay_at ns s offsets to at t reg qualified) λ b.
      enums_t b.t b.qualified b.reg (pack_name s offsets (number_in s at).value) 0 b.c.regions

-- what is written of the machine drawn at `at` is this, whatever long tables held before
unfoldable pub Writes : List ℕ → (ℕ → List ℕ → List ℕ → List ℕ → List Item) → ℕ → List Item → Type 0
Writes old f at is = (t reg qualified : List ℕ) → Long t reg qualified → (z : State) → render old (f at t reg qualified) z ≡ render old is z

-- so does each of n machines, drawn where the table says
abbrev pub AllWrite : List ℕ → (ℕ → List ℕ → List ℕ → List ℕ → List Item) → List ℕ → ℕ → (ℕ → List Item) → Type 0
AllWrite old f defs n g = (i : ℕ) → i < n → Writes old f (get_or defs i 0) (g i)
