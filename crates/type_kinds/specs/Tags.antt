-- Internal: nothing here has to be believed; no contract rests on it yet. Which types the tag bytes of a pack stand for.
use Rattle.std.specs.Prelude.{ℕ, List, [], ◌∷◌, Option, None, Some, get_or}
use Rattle.type_kinds.specs.declared.TypeKind.{TypeKind}
use Rattle.type_kinds.specs.declared.TypeKind.TheVariants as kind

-- what the bytes from 0 on stand for
unfoldable pub types_by_tag : List (Option TypeKind)
types_by_tag =
    Some kind.Bool ∷
    Some kind.Int8 ∷
    Some kind.Int16 ∷
    Some kind.Int32 ∷
    Some kind.Int64 ∷
    Some kind.Uint8 ∷
    Some kind.Uint16 ∷
    Some kind.Uint32 ∷
    Some kind.Uint64 ∷
    Some kind.Float32 ∷
    Some kind.Float64 ∷
    Some kind.Char ∷
    Some kind.Array ∷
    Some kind.Named ∷ []

-- types are tag bytes 0 to 13: what a tag stands for, and nothing from 14 on
unfoldable pub decode_type : ℕ → Option TypeKind
decode_type tag = get_or types_by_tag tag None
