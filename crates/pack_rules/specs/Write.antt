-- What a package is in bytes: items (bytes as they are, or a name), and the names that they make new, in order of first use.
use Rattle.std.specs.Prelude.{ℕ, suc, ◌+◌, List, [], ◌∷◌, ◌++◌, Bool, true, false, cond, ◌&&◌, length, leb}
use Rattle.std.proofs.Math.Option.{Option, none, some}
use Rattle.wire.specs.Bytes.{bytes, two}
use Rattle.pack_rules.specs.Limits.{absent, max_name}
use Rattle.pack_rules.specs.Names.{Name, eq_name}
use Rattle.pack_rules.specs.Syntax.{Activation, BinOp, Branch, Enum, Equation, Expr, Exprs, IterKind, Lit, MachineDef, Node, NodeKind, Origin, OriginKind, Package, Port, RegionDefs, StateDefs, Transition, Ty, UnOp, def_cons, def_nil, e_array, e_arrow, e_binary, e_call, e_cast, e_const, e_field, e_if, e_index, e_iterate, e_merge, e_pre, e_struct, e_tuple, e_unary, e_var, e_when, i_fold, i_map, k_function, k_imported, k_operator, l_bool, l_char, l_float, l_int, o_add, o_and, o_bit_and, o_bit_or, o_bit_xor, o_div, o_eq, o_ge, o_gt, o_implies, o_le, o_lt, o_mod, o_mul, o_neg, o_neq, o_not, o_or, o_shl, o_shr, o_sub, o_xor, of_activation, of_machine, reg_cons, reg_nil, t_array, t_bool, t_char, t_float32, t_float64, t_int16, t_int32, t_int64, t_int8, t_named, t_uint16, t_uint32, t_uint64, t_uint8, x_cons, x_nil}

-- what is written: bytes as they are, or a name, which is spelt by its index
pub data Item : Type 0 where
  raw : List ℕ → Item
  nm : Name → Item

-- one byte
unfoldable pub one : ℕ → List Item
one b = raw (b ∷ []) ∷ []

-- flags are 0 or 1
unfoldable pub flag_byte : Bool → ℕ
flag_byte b = cond b 1 0

-- each of a list, after the count
unfoldable pub each : {A : Type 0} → (A → List Item) → List A → List Item
each f [] = []
each f (x ∷ xs) = f x ++ each f xs

-- a count, then each
unfoldable pub list : {A : Type 0} → (A → List Item) → List A → List Item
list f xs = raw (two (length xs)) ∷ each f xs

-- a name
unfoldable pub name_items : Name → List Item
name_items n = nm n ∷ []

-- no name is written `absent`
unfoldable pub option_items : Option Name → List Item
option_items none = raw (two absent) ∷ []
option_items (some n) = nm n ∷ []

-- a type: its tag and what follows it
unfoldable pub ty_items : Ty → List Item
ty_items t_bool = one 0
ty_items t_int8 = one 1
ty_items t_int16 = one 2
ty_items t_int32 = one 3
ty_items t_int64 = one 4
ty_items t_uint8 = one 5
ty_items t_uint16 = one 6
ty_items t_uint32 = one 7
ty_items t_uint64 = one 8
ty_items t_float32 = one 9
ty_items t_float64 = one 10
ty_items t_char = one 11
ty_items (t_array n t) = raw (12 ∷ bytes 4 n) ∷ ty_items t
ty_items (t_named n) = raw (13 ∷ []) ∷ nm n ∷ []

-- a literal: its tag and its value
unfoldable pub lit_bytes : Lit → List ℕ
lit_bytes (l_bool b) = 0 ∷ flag_byte b ∷ []
lit_bytes (l_int n) = 1 ∷ bytes 8 n
lit_bytes (l_float n) = 2 ∷ bytes 8 n
lit_bytes (l_char n) = 3 ∷ n ∷ []

-- the number of an operator
unfoldable pub un_byte : UnOp → ℕ
un_byte o_not = 0
un_byte o_neg = 1

-- the number of an operator
unfoldable pub bin_byte : BinOp → ℕ
bin_byte o_and = 0
bin_byte o_or = 1
bin_byte o_xor = 2
bin_byte o_implies = 3
bin_byte o_eq = 4
bin_byte o_neq = 5
bin_byte o_lt = 6
bin_byte o_le = 7
bin_byte o_gt = 8
bin_byte o_ge = 9
bin_byte o_add = 10
bin_byte o_sub = 11
bin_byte o_mul = 12
bin_byte o_div = 13
bin_byte o_mod = 14
bin_byte o_bit_and = 15
bin_byte o_bit_or = 16
bin_byte o_bit_xor = 17
bin_byte o_shl = 18
bin_byte o_shr = 19

-- 0 map, 1 fold
unfoldable pub iter_byte : IterKind → ℕ
iter_byte i_map = 0
iter_byte i_fold = 1

-- how many expressions
unfoldable pub count_of : Exprs → ℕ
count_of x_nil = 0
count_of (x_cons e es) = suc (count_of es)

-- how many arrays an iterate has: all but an initial value
unfoldable pub arrays : Bool → Exprs → ℕ
arrays b x_nil = 0
arrays true (x_cons e es) = count_of es
arrays false (x_cons e es) = suc (count_of es)

-- an expression: tag, names and numbers, counts, then what stands under it
unfoldable mutual
  pub expr_items : Expr → List Item
  expr_items (e_const l) = raw (0 ∷ lit_bytes l) ∷ []
  expr_items (e_var x) = raw (1 ∷ []) ∷ nm x ∷ []
  expr_items (e_unary o a) = raw (2 ∷ un_byte o ∷ []) ∷ expr_items a
  expr_items (e_binary o a b) = raw (3 ∷ bin_byte o ∷ []) ∷ (expr_items a ++ expr_items b)
  expr_items (e_if a b c) = raw (4 ∷ []) ∷ (expr_items a ++ (expr_items b ++ expr_items c))
  expr_items (e_pre a) = raw (5 ∷ []) ∷ expr_items a
  expr_items (e_arrow a b) = raw (6 ∷ []) ∷ (expr_items a ++ expr_items b)
  expr_items (e_call f xs) = raw (7 ∷ []) ∷ nm f ∷ raw (two (count_of xs)) ∷ exprs_items xs
  expr_items (e_field a f) = raw (8 ∷ []) ∷ nm f ∷ expr_items a
  expr_items (e_index a i) = raw (9 ∷ []) ∷ (expr_items a ++ expr_items i)
  expr_items (e_tuple xs) = raw (10 ∷ two (count_of xs)) ∷ exprs_items xs
  expr_items (e_array xs) = raw (11 ∷ two (count_of xs)) ∷ exprs_items xs
  expr_items (e_struct n fs xs) = raw (12 ∷ []) ∷ nm n ∷ (list name_items fs ++ exprs_items xs)
  expr_items (e_cast t a) = raw (13 ∷ []) ∷ (ty_items t ++ expr_items a)
  expr_items (e_when a x b) = raw (14 ∷ []) ∷ nm x ∷ raw (flag_byte b ∷ []) ∷ expr_items a
  expr_items (e_merge x a b) = raw (15 ∷ []) ∷ nm x ∷ (expr_items a ++ expr_items b)
  expr_items (e_iterate k f i xs) = raw (16 ∷ iter_byte k ∷ []) ∷ nm f ∷ raw (flag_byte i ∷ two (arrays i xs)) ∷ exprs_items xs

  pub exprs_items : Exprs → List Item
  exprs_items x_nil = []
  exprs_items (x_cons a xs) = expr_items a ++ exprs_items xs

-- name, type
unfoldable pub port_items : Port → List Item
port_items p = nm p.name ∷ ty_items p.ty

-- left names, then the right side
unfoldable pub equation_items : Equation → List Item
equation_items e = list name_items e.lhs ++ expr_items e.rhs

-- guard, target
unfoldable pub transition_items : Transition → List Item
transition_items t = expr_items t.guard ++ name_items t.target

-- name, variants
unfoldable pub enum_items : Enum → List Item
enum_items e = nm e.name ∷ list name_items e.variants

-- 0 function, 1 operator, 2 imported
unfoldable pub kind_byte : NodeKind → ℕ
kind_byte k_function = 0
kind_byte k_operator = 1
kind_byte k_imported = 2

-- name, kind, ports, equations
unfoldable pub node_items : Node → List Item
node_items n =
    nm n.name ∷ raw (kind_byte n.kind ∷ [])
    ∷ (list port_items n.inputs ++ (list port_items n.outputs ++ (list port_items n.locals ++ list equation_items n.equations)))

-- how many states
unfoldable pub drawn_count : StateDefs → ℕ
drawn_count def_nil = 0
drawn_count (def_cons s es ts rs f rest) = suc (drawn_count rest)

-- how many regions
unfoldable pub region_count : RegionDefs → ℕ
region_count reg_nil = 0
region_count (reg_cons i h ss rest) = suc (region_count rest)

-- a state: name, equations, transitions, regions, refinement; a region: initial state, history, states
unfoldable mutual
  pub drawn_items : StateDefs → List Item
  drawn_items def_nil = []
  drawn_items (def_cons s es ts rs f rest) =
      nm s ∷ (list equation_items es ++ (list transition_items ts ++ (raw (two (region_count rs)) ∷ (region_items rs ++ (option_items f ++ drawn_items rest)))))

  pub region_items : RegionDefs → List Item
  region_items reg_nil = []
  region_items (reg_cons i h ss rest) = nm i ∷ raw (flag_byte h ∷ two (drawn_count ss)) ∷ (drawn_items ss ++ region_items rest)

-- name, owner, ports, initial state, states
unfoldable pub machine_items : MachineDef → List Item
machine_items m =
    nm m.name
    ∷ (option_items m.owner ++ (list port_items m.inputs ++ (list port_items m.outputs ++ (list port_items m.locals
    ++ (nm m.initial ∷ raw (two (drawn_count m.states)) ∷ drawn_items m.states)))))

-- name, condition, equations
unfoldable pub branch_items : Branch → List Item
branch_items b = nm b.name ∷ (expr_items b.condition ++ list equation_items b.equations)

-- name, owner, ports, branches, the equations of else
unfoldable pub activation_items : Activation → List Item
activation_items a =
    nm a.name ∷ nm a.owner
    ∷ (list port_items a.outputs ++ (list branch_items a.branches ++ list equation_items a.else_equations))

-- 0 machine, 1 activation
unfoldable pub origin_byte : OriginKind → ℕ
origin_byte of_machine = 0
origin_byte of_activation = 1

-- node, kind, name, two equation numbers, branch names
unfoldable pub origin_items : Origin → List Item
origin_items o =
    nm o.node ∷ raw (origin_byte o.kind ∷ []) ∷ nm o.name ∷ raw (two o.first ++ two o.after) ∷ list name_items o.branches

-- what follows the name section
unfoldable pub package_items : Package → List Item
package_items p =
    list enum_items p.enums
    ++ (list node_items p.nodes
    ++ (list machine_items p.machines
    ++ (list activation_items p.activations
    ++ list origin_items p.origins)))

-- names, each after its length
unfoldable pub enc : List Name → List ℕ
enc [] = []
enc (n ∷ ns) = length n ∷ (n ++ enc ns)

-- a name's place, or how many there are
pub data Found : Type 0 where
  At : ℕ → Found
  Missing : ℕ → Found

-- a name among names, counted from k
unfoldable pub lookup : List Name → Name → ℕ → Found
lookup [] n k = Missing k
lookup (m ∷ ms) n k = elim (eq_name m n) [ true ↦ At k | false ↦ lookup ms n (k + 1) ]

-- bytes, and the new names so far
pub data Spelt : Type 0 where
  spelt : List ℕ → List Name → Spelt

-- a name that is not among the b old ones: among the new ones, or added there
unfoldable pub new_in : Found → ℕ → Name → List Name → Spelt
new_in (At k) b n ns = spelt (two (b + k)) ns
new_in (Missing k) b n ns = spelt (two (b + k)) (ns ++ (n ∷ []))

-- a name: among the old ones, or else a new one
unfoldable pub old_in : Found → Name → List Name → Spelt
old_in (At k) n ns = spelt (two k) ns
old_in (Missing b) n ns = new_in (lookup ns n 0) b n ns

-- an item's bytes, and the new names after it
unfoldable pub spell_one : List Name → Item → List Name → Spelt
spell_one olds (raw xs) ns = spelt xs ns
spell_one olds (nm n) ns = old_in (lookup olds n 0) n ns

-- bytes in front
unfoldable pub before : List ℕ → Spelt → Spelt
before b (spelt c ns) = spelt (b ++ c) ns

-- one item, then the others
unfoldable pub and_then : Spelt → (List Name → Spelt) → Spelt
and_then (spelt b ns) k = before b (k ns)

-- items in order: names become indexes, new names come in order of first use
unfoldable pub spell : List Name → List Item → List Name → Spelt
spell olds [] ns = spelt [] ns
spell olds (i ∷ is) ns = and_then (spell_one olds i ns) (λ ms. spell olds is ms)

-- the old names, the new ones, and the rest
unfoldable pub joined : List Name → Spelt → List ℕ
joined olds (spelt b ns) = two (length olds + length ns) ++ (enc olds ++ (enc ns ++ b))

-- a package in bytes: the count of names, the table, the items
unfoldable pub encode : Package → List ℕ
encode p = joined p.names (spell p.names (package_items p) [])

-- no name is over the limit
unfoldable pub short : Item → Bool
short (raw xs) = true
short (nm n) = leb (length n) max_name

-- the same of all items
unfoldable pub shorts : List Item → Bool
shorts [] = true
shorts (i ∷ is) = short i && shorts is
