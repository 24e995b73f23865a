-- Internal: nothing here has to be believed; laws tie it to what docs/TRUSTED.md lists.
-- Tables of types, as the code fills and reads them.
use Rattle.std.specs.Prelude.{ℕ, ◌+◌, ◌-◌, ◌<◌, List, [], ◌∷◌, Bool, true, false, cond, ◌≡◌, get_or, length, eqb, ltb}
use Rattle.std.proofs.Math.Option.{Option, none, some}
use Rattle.pack_rules.specs.Names.{Name}
use Rattle.pack_rules.specs.Syntax.{Expr, Lit, Ty, e_const, e_var, l_bool, l_char, l_float, l_int}
use Rattle.pack_rules.specs.Forms.{name_at}
use Rattle.pack_rules.specs.Read.{names_in, port_in, type_in}
use Rattle.machines.specs.Layout.{slice_of}
use Rattle.machines.specs.ResolvedIn.{end_of}
use Rattle.machines.specs.CheckedReads.{byte_in, number_in, with}
use Rattle.std.specs.Prelude.{Option as Maybe, Some, None}
use Rattle.activations.specs.declared.types.TypeDefault.{TypeDefault}
use Rattle.activations.specs.declared.types.TypeDefault.TheVariants as sr
use Rattle.activations.specs.Cells.{put_t}
use Rattle.activations.specs.TypeCodes.{type_at}
use Rattle.activations.specs.Places.{along, each_of}

-- where the first of the inputs' count stands: after a node's name and kind
unfoldable pub inputs_in : List ℕ → ℕ → ℕ
inputs_in s at = with (number_in s at) λ m p. (byte_in s p).next

-- a port at p: its type's place, by its name's index; only where there is none yet
unfoldable pub port_t : List ℕ → ℕ → List ℕ → List ℕ
port_t s p t = with (number_in s p) λ x q. put_t t x q

unfoldable pub first_port_t : List ℕ → ℕ → List ℕ → List ℕ
first_port_t s p t = with (number_in s p) λ x q. cond (eqb (get_or t x 0) 0) (put_t t x q) t

module _ (ns : List Name) (s : List ℕ) where
  -- past the port at `at`
  unfoldable pub port_end : ℕ → ℕ
  port_end at = end_of (port_in ns s at)

  -- ports whose count stands at `at`, and past them
  unfoldable pub ports_t : ℕ → List ℕ → List ℕ
  ports_t at t = with (number_in s at) λ n p. each_of (port_t s) port_end n p t

  unfoldable pub ports_end : ℕ → ℕ
  ports_end at = with (number_in s at) λ n p. along port_end n p

  -- the same ports, each only where its name has no type yet
  unfoldable pub first_ports_t : ℕ → List ℕ → List ℕ
  first_ports_t at t = with (number_in s at) λ n p. each_of (first_port_t s) port_end n p t

  -- inputs, outputs and locals, whose counts follow each other from `at` on
  unfoldable pub three_ports_t : ℕ → List ℕ → List ℕ
  three_ports_t at t = ports_t (ports_end (ports_end at)) (ports_t (ports_end at) (ports_t at t))

  -- the variables of the node at `at`
  unfoldable pub variables_t : ℕ → List ℕ → List ℕ
  variables_t at t = three_ports_t (inputs_in s at) t

  -- the bytes of the type of a code: Bool's where it stands nowhere
  unfoldable pub type_bytes : ℕ → List ℕ
  type_bytes c = cond (ltb c 2) (0 ∷ []) (slice_of s c (end_of (type_in ns s c) - c))

  -- past the enum at `at`
  unfoldable pub enum_end : ℕ → ℕ
  enum_end at = with (number_in s at) λ i p. end_of (names_in ns s p)

-- what a holder of a type with this tag starts from: literals of 0, none of arrays
unfoldable pub plain_start : ℕ → Maybe TypeDefault
plain_start tag =
    cond (eqb tag 0) (Some (sr.Literal 0))
    (cond (eqb tag 9) (Some (sr.Literal 2))
    (cond (eqb tag 10) (Some (sr.Literal 2))
    (cond (eqb tag 11) (Some (sr.Literal 3))
    (cond (eqb tag 12) None
    (Some (sr.Literal 1))))))

-- the first of k variants at p, r where there is none
unfoldable pub variant_or : List ℕ → ℕ → ℕ → Maybe TypeDefault → Maybe TypeDefault
variant_or s k p r = cond (eqb k 0) r (Some (sr.Name (number_in s p).value))

-- the enum at p, asked for its first variant where its name's index is x
unfoldable pub variant_at : List ℕ → ℕ → ℕ → Maybe TypeDefault → Maybe TypeDefault
variant_at s x p r = with (number_in s p) λ i q. with (number_in s q) λ k v. cond (eqb i x) (variant_or s k v r) r

module _ (ns : List Name) (s : List ℕ) (enums : ℕ) where
  -- of the enums of the name x the first variant of the last that has one
  unfoldable pub first_variant_t : ℕ → Maybe TypeDefault
  first_variant_t x = with (number_in s enums) λ n p. each_of (variant_at s x) (enum_end ns s) n p None

-- the same as a word of a table: one more than the variant's index, 0 for none
unfoldable pub default_word : ℕ → Maybe TypeDefault
default_word c = cond (eqb c 0) None (Some (sr.Name (c - 1)))

module _ (ns : List Name) (s : List ℕ) (enums : ℕ) (offsets : List ℕ) where
  -- the first variant by the table of names, which past their places has those words for 17,408 names; of others it is sought
  unfoldable pub variant_t : ℕ → Maybe TypeDefault
  variant_t x = cond (ltb x 17408) (default_word (get_or offsets (32768 + x) 0)) (first_variant_t ns s enums x)

  -- of a type that stands in the pack, by its tag
  unfoldable pub default_at : ℕ → Maybe TypeDefault
  default_at c = with (byte_in s c) λ tag p. cond (eqb tag 13) (with (number_in s p) λ x q. variant_t x) (plain_start tag)

  -- what a holder of the type of a code starts from
  unfoldable pub default_t : ℕ → Maybe TypeDefault
  default_t c = cond (ltb c 2) (Some (sr.Literal 0)) (default_at c)

-- a literal by its tag
unfoldable pub zero_of : ℕ → Lit
zero_of tag = cond (eqb tag 0) (l_bool false) (cond (eqb tag 1) (l_int 0) (cond (eqb tag 2) (l_float 0) (l_char 0)))

-- the expression of a start
unfoldable pub default_expr : List Name → Maybe TypeDefault → Option Expr
default_expr ns None = none
default_expr ns (Some (sr.Literal tag)) = some (e_const (zero_of tag))
default_expr ns (Some (sr.Name v)) = some (e_var (name_at ns v))

-- the name of a start is one of the pack
unfoldable pub DefaultIn : List Name → Maybe TypeDefault → Type 0
DefaultIn ns None = Unit {0}
DefaultIn ns (Some (sr.Literal tag)) = Unit {0}
DefaultIn ns (Some (sr.Name v)) = v < length ns

-- whether there is nothing to start from
unfoldable pub is_missing : Maybe TypeDefault → Bool
is_missing None = true
is_missing (Some t) = false

-- a code stands for a type, or is 0 for none
unfoldable pub Coded : List Name → List ℕ → ℕ → Option Ty → Type 0
Coded ns s c none = c ≡ 0
Coded ns s c (some t) = (0 < c) × (type_at ns s c ≡ some t)

-- a table has by old index the types that names have
unfoldable pub TypesAre : List Name → List ℕ → List ℕ → (Name → Option Ty) → Type 0
TypesAre ns s t f = (x : ℕ) → x < length ns → Coded ns s (get_or t x 0) (f (name_at ns x))
