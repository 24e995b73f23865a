-- Internal: nothing here has to be believed; laws tie it to what docs/TRUSTED.md lists.
-- The equations of holders, as the code writes them from the rows.
use Rattle.std.specs.Prelude.{ℕ, ◌-◌, List, [], ◌∷◌, cond, get_or, eqb}
use Rattle.wire.specs.Bytes.{two}
use Rattle.pack_rules.specs.Names.{Name}
use Rattle.pack_rules.specs.Read.{expr_in}
use Rattle.pack_rules.specs.Write.{Item, lit_bytes, nm, raw}
use Rattle.machines.specs.Layout.{slice_of}
use Rattle.machines.specs.ResolvedIn.{end_of}
use Rattle.machines.specs.EmitAt.{pack_name}
use Rattle.activations.specs.declared.pack_info.PackInfo.{PackInfo}
use Rattle.std.specs.Prelude.{Option as Maybe, Some, None}
use Rattle.activations.specs.declared.types.TypeDefault.{TypeDefault}
use Rattle.activations.specs.declared.types.TypeDefault.TheVariants as sr
use Rattle.activation_rules.specs.MadeNames.{last_var}
use Rattle.activations.specs.TypesAt.{default_t, zero_of}
use Rattle.activations.specs.LastsAt.{word_t}

-- what a holder starts from, as an expression's bytes
unfoldable pub default_bytes : Maybe TypeDefault → List ℕ
default_bytes None = []
default_bytes (Some (sr.Literal tag)) = 0 ∷ lit_bytes (zero_of tag)
default_bytes (Some (sr.Name v)) = 1 ∷ two v

-- the given initial value as it stands, else what the type of code c starts from
unfoldable pub init_bytes : List Name → List ℕ → PackInfo → List ℕ → ℕ → ℕ → List ℕ
init_bytes ns s b offsets init c = cond (eqb init 0) (default_bytes (default_t ns s b.enums offsets c)) (slice_of s init (end_of (expr_in ns s init) - init))

-- the equation of the holder of v
unfoldable pub holder_items : List ℕ → List ℕ → Name → ℕ → List ℕ → List Item
holder_items s offsets a v bs = raw (two 1) ∷ nm (last_var a (pack_name s offsets v)) ∷ raw (6 ∷ []) ∷ raw bs ∷ raw (5 ∷ 1 ∷ []) ∷ raw (two v) ∷ []

-- of the row h
unfoldable pub row_items : List Name → List ℕ → PackInfo → List ℕ → Name → List ℕ → List ℕ → ℕ → List Item
row_items ns s b offsets a env lasts h = holder_items s offsets a (word_t lasts h 0) (init_bytes ns s b offsets (word_t lasts h 1) (get_or env (word_t lasts h 2) 0))
