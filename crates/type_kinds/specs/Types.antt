-- Internal: nothing here has to be believed; laws tie it to what docs/TRUSTED.md lists.
-- The test for an integer type and the default of a type, each with a clause for each of the fourteen. That what is written has
-- the defaults of the rules is proved from it.
use Rattle.std.specs.Prelude.{Bool, true, false, cond, Option, None, Some}
use Rattle.type_kinds.specs.declared.TypeKind.{TypeKind}
use Rattle.type_kinds.specs.declared.TypeKind.TheVariants as kind
use Rattle.type_kinds.specs.declared.LiteralKind.TheVariants as literal
use Rattle.type_kinds.specs.declared.DefaultKind.{DefaultKind}
use Rattle.type_kinds.specs.declared.DefaultKind.TheVariants as default

-- `is_integer` of `types.rs`: the signed and the unsigned numbers of 8 to 64 bits
unfoldable pub is_integer : TypeKind → Bool
is_integer kind.Bool = false
is_integer kind.Int8 = true
is_integer kind.Int16 = true
is_integer kind.Int32 = true
is_integer kind.Int64 = true
is_integer kind.Uint8 = true
is_integer kind.Uint16 = true
is_integer kind.Uint32 = true
is_integer kind.Uint64 = true
is_integer kind.Float32 = false
is_integer kind.Float64 = false
is_integer kind.Char = false
is_integer kind.Array = false
is_integer kind.Named = false

-- what the test for an integer type decides of the default
unfoldable pub integer_or_missing : TypeKind → Option DefaultKind
integer_or_missing k = cond (is_integer k) (Some (default.Literal literal.Int)) None

-- `default_of` of `activation.rs`, of the kind: arrays have no default, a named type has its enum's first variant
unfoldable pub default_kind : TypeKind → Option DefaultKind
default_kind kind.Bool = Some (default.Literal literal.Bool)
default_kind kind.Int8 = Some (default.Literal literal.Int)
default_kind kind.Int16 = Some (default.Literal literal.Int)
default_kind kind.Int32 = Some (default.Literal literal.Int)
default_kind kind.Int64 = Some (default.Literal literal.Int)
default_kind kind.Uint8 = Some (default.Literal literal.Int)
default_kind kind.Uint16 = Some (default.Literal literal.Int)
default_kind kind.Uint32 = Some (default.Literal literal.Int)
default_kind kind.Uint64 = Some (default.Literal literal.Int)
default_kind kind.Float32 = Some (default.Literal literal.Float)
default_kind kind.Float64 = Some (default.Literal literal.Float)
default_kind kind.Char = Some (default.Literal literal.Char)
default_kind kind.Array = None
default_kind kind.Named = Some default.FirstVariant
