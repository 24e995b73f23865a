-- Internal: nothing here has to be believed; laws tie it to what docs/TRUSTED.md lists.
-- An activation begun, as the code does it: the types of what it may read, its holders' rows, and what is refused of these.
use Rattle.std.specs.Prelude.{ℕ, List}
use Rattle.pack_rules.specs.Names.{Name}
use Rattle.activations.specs.declared.pack_info.PackInfo.{PackInfo}
use Rattle.activations.specs.declared.parts.Act.{Act}
use Rattle.activations.specs.declared.lower.Prepared.{Prepared}
use Rattle.activations.specs.Cells.{clear_t, copy_t}
use Rattle.activations.specs.TypesAt.{first_ports_t}
use Rattle.activations.specs.LastsAt.{Rows, find_all_lasts_t, rows_of}
use Rattle.activations.specs.TypeHoldersAt.{Hold, hold_from}
use Rattle.activations.specs.Refusing.{hold_with}

-- the tables, the answer to the holders, how many there are
pub record Preparation : Type 0 where
  pub outs : List ℕ
  pub hold : Hold
  pub rows : ℕ

-- the same from the tables and the answer of the code, where there are so many names
abbrev pub preparation_of : ℕ → List ℕ → List ℕ → List ℕ → Prepared → Preparation
preparation_of names env outs lasts r = record { outs = outs; hold = hold_with names 0 env lasts r.verdict; rows = r.rows }

module _ (ns : List Name) (old s : List ℕ) (b : PackInfo) (offsets : List ℕ) (a : Name) where
  -- with the rows and the outputs' types
  unfoldable pub held_t : Rows → List ℕ → List ℕ → Preparation
  held_t r outs env = record { outs = outs; hold = hold_from ns old s b offsets a outs r.count 0 env r.table; rows = r.count }

  -- `later` has the types of the owner's variables
  unfoldable pub prepared_t : Act → List ℕ → List ℕ → List ℕ → List ℕ → Preparation
  prepared_t act later env outs lasts =
      held_t (find_all_lasts_t ns s b.last act (rows_of lasts 0)) (first_ports_t ns s act.outputs (clear_t b.names outs)) (copy_t later b.names env)
