-- The tag of each type, which decodes to it and to no other; the default is the integer literal exactly where the test for an
-- integer type holds.
use Prim.Native.Nat.{ℕ, zero, suc, ◌+◌, ◌<◌}
use native.Mathlib.Omega.{arith}
use mathlib.Core.List.{List, [], ◌∷◌}
use mathlib.Core.Bool.{Bool, true, false}
use Rattle.std.specs.Prelude.{Option, None, Some}
use mathlib.Core.Path.{◌≡◌, refl, ap, ◌∙◌}
use lib.ListN.{get_or}
use Rattle.type_kinds.specs.declared.TypeKind.{TypeKind}
use Rattle.type_kinds.specs.declared.TypeKind.TheVariants as kind
use Rattle.type_kinds.specs.declared.LiteralKind.TheVariants as literal
use Rattle.type_kinds.specs.declared.DefaultKind.{DefaultKind}
use Rattle.type_kinds.specs.declared.DefaultKind.TheVariants as default
use Rattle.type_kinds.specs.Tags.{decode_type, types_by_tag}
use Rattle.type_kinds.specs.Types.{default_kind, is_integer}

-- the tag byte of a type
unfoldable pub type_tag : TypeKind → ℕ
type_tag kind.Bool = 0
type_tag kind.Int8 = 1
type_tag kind.Int16 = 2
type_tag kind.Int32 = 3
type_tag kind.Int64 = 4
type_tag kind.Uint8 = 5
type_tag kind.Uint16 = 6
type_tag kind.Uint32 = 7
type_tag kind.Uint64 = 8
type_tag kind.Float32 = 9
type_tag kind.Float64 = 10
type_tag kind.Char = 11
type_tag kind.Array = 12
type_tag kind.Named = 13

-- the tag of a type decodes to it
pub decode-tag : (k : TypeKind) → decode_type (type_tag k) ≡ Some k
unfolding decode_type type_tag types_by_tag
decode-tag kind.Bool = refl
decode-tag kind.Int8 = refl
decode-tag kind.Int16 = refl
decode-tag kind.Int32 = refl
decode-tag kind.Int64 = refl
decode-tag kind.Uint8 = refl
decode-tag kind.Uint16 = refl
decode-tag kind.Uint32 = refl
decode-tag kind.Uint64 = refl
decode-tag kind.Float32 = refl
decode-tag kind.Float64 = refl
decode-tag kind.Char = refl
decode-tag kind.Array = refl
decode-tag kind.Named = refl

pub tag_small : (k : TypeKind) → type_tag k < 256
unfolding type_tag
tag_small kind.Bool = omega arith
tag_small kind.Int8 = omega arith
tag_small kind.Int16 = omega arith
tag_small kind.Int32 = omega arith
tag_small kind.Int64 = omega arith
tag_small kind.Uint8 = omega arith
tag_small kind.Uint16 = omega arith
tag_small kind.Uint32 = omega arith
tag_small kind.Uint64 = omega arith
tag_small kind.Float32 = omega arith
tag_small kind.Float64 = omega arith
tag_small kind.Char = omega arith
tag_small kind.Array = omega arith
tag_small kind.Named = omega arith

-- the tag of what a byte stands for; 256 is no byte
unfoldable tag_in : Option TypeKind → ℕ
tag_in (Some k) = type_tag k
tag_in None = 256

-- a table whose rows from n on stand at their types' tags
unfoldable Ordered : ℕ → List (Option TypeKind) → Type 0
Ordered n [] = Unit {0}
Ordered n (d ∷ ds) = (n ≡ tag_in d) × Ordered (suc n) ds

row-tag : (n : ℕ) (ds : List (Option TypeKind)) (i : ℕ) (k : TypeKind) → Ordered n ds → get_or ds i None ≡ Some k → n + i ≡ type_tag k
unfolding Ordered tag_in
row-tag n [] i k r e = let z : 256 ≡ type_tag k = ap tag_in e in let l = tag_small k in absurd (omega arith)
row-tag n (d ∷ ds) zero k r e = let z : n + 0 ≡ n = omega arith in z ∙ r.0 ∙ ap tag_in e
row-tag n (d ∷ ds) (suc i) k r e = let z : n + suc i ≡ suc n + i = omega arith in z ∙ row-tag (suc n) ds i k r.1 e

-- a byte that stands for a type is its tag
pub tag-decoded : (tag : ℕ) (k : TypeKind) → decode_type tag ≡ Some k → tag ≡ type_tag k
unfolding decode_type types_by_tag Ordered tag_in type_tag
tag-decoded tag k e =
    let z : tag ≡ 0 + tag = omega arith in
    z ∙ row-tag 0 types_by_tag tag k (refl, (refl, (refl, (refl, (refl, (refl, (refl, (refl, (refl, (refl, (refl, (refl, (refl, (refl, tt)))))))))))))) e

-- whether a default is the integer literal
unfoldable pub is_int : Option DefaultKind → Bool
is_int (Some (default.Literal literal.Bool)) = false
is_int (Some (default.Literal literal.Int)) = true
is_int (Some (default.Literal literal.Float)) = false
is_int (Some (default.Literal literal.Char)) = false
is_int (Some default.FirstVariant) = false
is_int None = false

pub integer-default : (k : TypeKind) → is_int (default_kind k) ≡ is_integer k
unfolding is_int default_kind is_integer
integer-default kind.Bool = refl
integer-default kind.Int8 = refl
integer-default kind.Int16 = refl
integer-default kind.Int32 = refl
integer-default kind.Int64 = refl
integer-default kind.Uint8 = refl
integer-default kind.Uint16 = refl
integer-default kind.Uint32 = refl
integer-default kind.Uint64 = refl
integer-default kind.Float32 = refl
integer-default kind.Float64 = refl
integer-default kind.Char = refl
integer-default kind.Array = refl
integer-default kind.Named = refl
