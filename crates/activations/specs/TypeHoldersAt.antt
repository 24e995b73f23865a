-- Internal: nothing here has to be believed; laws tie it to what docs/TRUSTED.md lists.
-- Holders made known, as the code does it: rows of variables that are sought, types and numbers in tables.
use Rattle.std.specs.Prelude.{ℕ, zero, suc, ◌+◌, ◌*◌, List, [], Bool, false, cond, eqb}
use Rattle.wire.specs.Writer.{puts, st}
use Rattle.pack_rules.specs.Names.{Name}
use Rattle.pack_rules.specs.Limits.{max_name}
use Rattle.machines.specs.EmitAt.{pack_name}
use Rattle.activations.specs.declared.pack_info.PackInfo.{PackInfo}
use Rattle.activations.specs.Cells.{put_t}
use Rattle.activations.specs.Ids.{old_or}
use Rattle.activations.specs.Lookups.{place_built, place_in}
use Rattle.activation_rules.specs.MadeNames.{last_var}
use Rattle.activations.specs.TypeCodes.{typed_t}
use Rattle.activations.specs.TypesAt.{default_t, is_missing}
use Rattle.activations.specs.LastsAt.{word_t}

-- the number of the holder of a name, v more than the number of names where it is no old one
unfoldable pub holder_number : List ℕ → PackInfo → Name → ℕ → ℕ
holder_number old b n v = old_or b.names (place_built (place_in old) b.names b.made (puts n (st max_name 0 [] []))) (b.names + v)

module _ (old s : List ℕ) (b : PackInfo) (offsets : List ℕ) (a : Name) where
  -- the number of the holder of v
  unfoldable pub holder_t : ℕ → ℕ
  holder_t v = holder_number old b (last_var a (pack_name s offsets v)) v

-- types and rows while holders are made known, and what is answered: 0, or the kind of a refusal and its variable
pub record Hold : Type 0 where
  pub env : List ℕ
  pub held : List ℕ
  pub kind : ℕ
  pub var : ℕ

abbrev pub hold_of : List ℕ → List ℕ → ℕ → ℕ → Hold
hold_of e d k v = record { env = e; held = d; kind = k; var = v }

-- whether a holder of the type of code c has nothing to start from
unfoldable pub needs_t : List Name → List ℕ → PackInfo → List ℕ → ℕ → ℕ → Bool
needs_t ns s b offsets init c = cond (eqb init 0) (is_missing (default_t ns s b.enums offsets c)) false

-- the row h of the variable v, of a type of code c, is known by the number id
unfoldable pub known_t : ℕ → ℕ → ℕ → ℕ → List ℕ → List ℕ → Hold
known_t h v c id e d = hold_of (put_t e id c) (put_t d (3 * h + 2) id) 0 v

module _ (ns : List Name) (old s : List ℕ) (b : PackInfo) (offsets : List ℕ) (a : Name) (outs : List ℕ) where
  -- Report, kinds 15 (LastUnknown) and 16 (LastNeedsInit), or known
  unfoldable pub hold_code : ℕ → ℕ → ℕ → List ℕ → List ℕ → Hold
  hold_code h v c e d = cond (eqb c 0) (hold_of e d 15 v) (cond (needs_t ns s b offsets (word_t d h 1) c) (hold_of e d 16 v) (known_t h v c (holder_t old s b offsets a v) e d))

  -- the row h, by the type of its variable
  unfoldable pub hold_row : ℕ → List ℕ → List ℕ → Hold
  hold_row h e d = hold_code h (word_t d h 0) (typed_t e outs b.names (word_t d h 0)) e d

  -- n rows from h on, up to the first refusal
  unfoldable pub hold_from : ℕ → ℕ → List ℕ → List ℕ → Hold
  hold_from zero h e d = hold_of e d 0 0
  hold_from (suc n) h e d = cond (eqb (hold_row h e d).kind 0) (hold_from n (suc h) (hold_row h e d).env (hold_row h e d).held) (hold_row h e d)
