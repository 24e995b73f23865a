-- Types and expressions as they stand in a pack: in preorder, a head, which says how many trees stand under it, and then those.
use Rattle.std.specs.Prelude.{ℕ, ◌+◌, zero, suc, List, [], ◌∷◌, Bool, false, cond, length, get_or, eqb}
use Rattle.pack_rules.specs.Names.{Name}
use Rattle.wire.specs.Preorder.{Tree, Trees, cons, nil, node, trees}
use Rattle.pack_rules.specs.Syntax.{BinOp, Expr, Exprs, IterKind, Lit, Ty, UnOp, e_array, e_arrow, e_binary, e_call, e_cast, e_const, e_field, e_if, e_index, e_iterate, e_merge, e_pre, e_struct, e_tuple, e_unary, e_var, e_when, i_fold, i_map, l_bool, l_char, l_float, l_int, o_add, o_and, o_bit_and, o_bit_or, o_bit_xor, o_div, o_eq, o_ge, o_gt, o_implies, o_le, o_lt, o_mod, o_mul, o_neg, o_neq, o_not, o_or, o_shl, o_shr, o_sub, o_xor, t_array, t_bool, t_char, t_float32, t_float64, t_int16, t_int32, t_int64, t_int8, t_named, t_uint16, t_uint32, t_uint64, t_uint8, x_cons, x_nil}
use Rattle.wire.specs.Answer.{Answer, below, bind, byte, illegal, index, many, map_a, u16, u32, u64, value}

-- types: a tag byte below 14; an array (12) has a 32-bit length and its element, a named type (13) its name
pub data TypeHead : Type 0 where
  plain : ℕ → TypeHead
  sized : ℕ → TypeHead
  named : ℕ → TypeHead

-- how many types stand under a head: an array has its element
unfoldable pub type_arity : TypeHead → ℕ
type_arity (plain t) = 0
type_arity (sized n) = 1
type_arity (named i) = 0

-- what follows the tag: an array's length, a named type's name
unfoldable pub type_fields : ℕ → ℕ → List ℕ → ℕ → Answer TypeHead
type_fields names tag s at =
    cond (eqb tag 12) (map_a sized (u32 s at))
    (cond (eqb tag 13) (map_a named (index names s at))
    (value (plain tag) at))

-- types are bytes 0 to 13
unfoldable pub type_head : ℕ → List ℕ → ℕ → Answer TypeHead
type_head names s at = bind (below 14 s at) λ tag p. type_fields names tag s p

-- a whole type
unfoldable pub type_at : ℕ → List ℕ → ℕ → Answer (Trees TypeHead)
type_at names s at = trees type_arity (type_head names) (suc (length s)) s 1 at

-- expressions: a tag byte below 17; names, numbers, types and counts; then the sub-expressions. Names are indexes.
pub data ExprHead : Type 0 where
  const : Lit → ExprHead
  var : ℕ → ExprHead
  unary : ℕ → ExprHead
  binary : ℕ → ExprHead
  conditional : ExprHead
  previous : ExprHead
  arrow : ExprHead
  call : ℕ → ℕ → ExprHead
  field : ℕ → ExprHead
  element : ExprHead
  tuple : ℕ → ExprHead
  array : ℕ → ExprHead
  struct : ℕ → List ℕ → ExprHead
  cast : Trees TypeHead → ExprHead
  sample : ℕ → ℕ → ExprHead
  merge : ℕ → ExprHead
  iterate : ℕ → ℕ → ℕ → ℕ → ExprHead

-- how many expressions stand under a head
unfoldable pub expr_arity : ExprHead → ℕ
expr_arity (const l) = 0
expr_arity (var i) = 0
expr_arity (unary o) = 1
expr_arity (binary o) = 2
expr_arity conditional = 3
expr_arity previous = 1
expr_arity arrow = 2
expr_arity (call i n) = n
expr_arity (field i) = 1
expr_arity element = 2
expr_arity (tuple n) = n
expr_arity (array n) = n
expr_arity (struct i fs) = length fs
expr_arity (cast t) = 1
expr_arity (sample i b) = 1
expr_arity (merge i) = 2
expr_arity (iterate k i b n) = b + n

-- bytes of a flag
unfoldable pub flag_of : ℕ → Bool
flag_of b = eqb b 1

-- what follows the literal's tag
unfoldable pub literal_of : ℕ → List ℕ → ℕ → Answer Lit
literal_of tag s at =
    cond (eqb tag 0) (map_a (λ b. l_bool (flag_of b)) (below 2 s at))
    (cond (eqb tag 1) (map_a l_int (u64 s at))
    (cond (eqb tag 2) (map_a l_float (u64 s at))
    (map_a l_char (byte s at))))

-- literals are bytes 0 to 3
unfoldable pub literal : List ℕ → ℕ → Answer Lit
literal s at = bind (below 4 s at) λ tag p. literal_of tag s p

-- a call: its node, then the count of its arguments
unfoldable pub call_fields : ℕ → List ℕ → ℕ → Answer ExprHead
call_fields names s at = bind (index names s at) λ i p. map_a (call i) (u16 s p)

-- a struct: type name, count, field names; the values are sub-expressions
unfoldable pub struct_fields : ℕ → List ℕ → ℕ → Answer ExprHead
struct_fields names s at = bind (index names s at) λ i p. bind (u16 s p) λ n q. map_a (struct i) (many (index names s) n q)

-- `when`: its clock, then its flag
unfoldable pub when_fields : ℕ → List ℕ → ℕ → Answer ExprHead
when_fields names s at = bind (index names s at) λ i p. map_a (sample i) (below 2 s p)

-- an iterate: kind, node, flag of an initial value, count of arrays
unfoldable pub iterate_fields : ℕ → List ℕ → ℕ → Answer ExprHead
iterate_fields names s at =
    bind (below 2 s at) λ k p. bind (index names s p) λ i q. bind (below 2 s q) λ b o. map_a (iterate k i b) (u16 s o)

-- the fields of each tag, in the tags' order
unfoldable pub expr_rows : ℕ → List ℕ → ℕ → List (Answer ExprHead)
expr_rows names s at =
    map_a const (literal s at) ∷
    map_a var (index names s at) ∷
    map_a unary (below 2 s at) ∷
    map_a binary (below 20 s at) ∷
    value conditional at ∷
    value previous at ∷
    value arrow at ∷
    call_fields names s at ∷
    map_a field (index names s at) ∷
    value element at ∷
    map_a tuple (u16 s at) ∷
    map_a array (u16 s at) ∷
    struct_fields names s at ∷
    map_a cast (type_at names s at) ∷
    when_fields names s at ∷
    map_a merge (index names s at) ∷
    iterate_fields names s at ∷ []

-- the fields of a tag
unfoldable pub expr_fields : ℕ → ℕ → List ℕ → ℕ → Answer ExprHead
expr_fields names tag s at = get_or (expr_rows names s at) tag (illegal at)

-- expressions are tag bytes 0 to 16
unfoldable pub expr_head : ℕ → List ℕ → ℕ → Answer ExprHead
expr_head names s at = bind (below 17 s at) λ tag p. expr_fields names tag s p

-- a whole expression
unfoldable pub expr_at : ℕ → List ℕ → ℕ → Answer (Trees ExprHead)
expr_at names s at = trees expr_arity (expr_head names) (suc (length s)) s 1 at

-- the trees with names for indexes
unfoldable pub name_at : List Name → ℕ → Name
name_at ns i = get_or ns i []

-- types 0 to 11, in the order of the source
unfoldable pub plain_types : List Ty
plain_types = t_bool ∷ t_int8 ∷ t_int16 ∷ t_int32 ∷ t_int64 ∷ t_uint8 ∷ t_uint16 ∷ t_uint32 ∷ t_uint64 ∷ t_float32 ∷ t_float64 ∷ t_char ∷ []

-- a type from its head and the type under it
unfoldable pub type_over : List Name → TypeHead → Ty → Ty
type_over ns (plain t) under = get_or plain_types t t_bool
type_over ns (sized n) under = t_array n under
type_over ns (named i) under = t_named (name_at ns i)

-- a type from its tree of heads, and the first type of some trees; only an array asks for one, and has it
unfoldable mutual
  pub type_of : List Name → Tree TypeHead → Ty
  type_of ns (node h ts) = type_over ns h (first_type ns ts)

  pub first_type : List Name → Trees TypeHead → Ty
  first_type ns nil = t_bool
  first_type ns (cons t ts) = type_of ns t

-- by the number of an operator
unfoldable pub un_ops : List UnOp
un_ops = o_not ∷ o_neg ∷ []

-- the same for two operands
unfoldable pub bin_ops : List BinOp
bin_ops = o_and ∷ o_or ∷ o_xor ∷ o_implies ∷ o_eq ∷ o_neq ∷ o_lt ∷ o_le ∷ o_gt ∷ o_ge ∷ o_add ∷ o_sub ∷ o_mul ∷ o_div ∷ o_mod ∷ o_bit_and ∷ o_bit_or ∷ o_bit_xor ∷ o_shl ∷ o_shr ∷ []

-- 0 map, 1 fold
unfoldable pub iter_kinds : List IterKind
iter_kinds = i_map ∷ i_fold ∷ []

-- a sub-expression by its place
unfoldable pub nth : ℕ → Exprs → Expr
nth n x_nil = e_const (l_bool false)
nth zero (x_cons e es) = e
nth (suc n) (x_cons e es) = nth n es

-- names for indexes
unfoldable pub names_at : List Name → List ℕ → List Name
names_at ns [] = []
names_at ns (i ∷ is) = name_at ns i ∷ names_at ns is

-- an expression from its head and the expressions under it
unfoldable pub expr_over : List Name → ExprHead → Exprs → Expr
expr_over ns (const l) es = e_const l
expr_over ns (var i) es = e_var (name_at ns i)
expr_over ns (unary o) es = e_unary (get_or un_ops o o_not) (nth 0 es)
expr_over ns (binary o) es = e_binary (get_or bin_ops o o_and) (nth 0 es) (nth 1 es)
expr_over ns conditional es = e_if (nth 0 es) (nth 1 es) (nth 2 es)
expr_over ns previous es = e_pre (nth 0 es)
expr_over ns arrow es = e_arrow (nth 0 es) (nth 1 es)
expr_over ns (call i n) es = e_call (name_at ns i) es
expr_over ns (field i) es = e_field (nth 0 es) (name_at ns i)
expr_over ns element es = e_index (nth 0 es) (nth 1 es)
expr_over ns (tuple n) es = e_tuple es
expr_over ns (array n) es = e_array es
expr_over ns (struct i fs) es = e_struct (name_at ns i) (names_at ns fs) es
expr_over ns (cast t) es = e_cast (first_type ns t) (nth 0 es)
expr_over ns (sample i b) es = e_when (nth 0 es) (name_at ns i) (flag_of b)
expr_over ns (merge i) es = e_merge (name_at ns i) (nth 0 es) (nth 1 es)
expr_over ns (iterate k i b n) es = e_iterate (get_or iter_kinds k i_map) (name_at ns i) (flag_of b) es

-- an expression from its tree of heads, and all expressions of some trees
unfoldable mutual
  pub expr_of : List Name → Tree ExprHead → Expr
  expr_of ns (node h ts) = expr_over ns h (exprs_of ns ts)

  pub exprs_of : List Name → Trees ExprHead → Exprs
  exprs_of ns nil = x_nil
  exprs_of ns (cons t ts) = x_cons (expr_of ns t) (exprs_of ns ts)
