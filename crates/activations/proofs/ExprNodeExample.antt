-- Nodes met in a few bytes: `last(x, pre x)` in a tuple with `last(true)`, under the names `last` and `x`.
use Prim.Native.Nat.{ℕ}
use native.Mathlib.Omega.{arith}
use mathlib.Core.List.{List, [], ◌∷◌}
use mathlib.Core.Bool.{false, true}
use mathlib.Core.Path.{◌≡◌, refl}
use Rattle.wire.specs.Answer.{below, bind, byte, guard, index, map_a, u16, value}
use Rattle.wire.specs.Lists.{Bytes}
use Rattle.wire.specs.Preorder.{trees}
use Rattle.pack_rules.specs.Names.{Name, eq_name, member}
use Rattle.pack_rules.specs.Forms.{call_fields, expr_arity, expr_at, expr_fields, expr_head, expr_of, expr_over, expr_rows, exprs_of, flag_of, literal, literal_of, name_at, nth}
use Rattle.pack_rules.specs.Legal.{Fresh, place}
use Rattle.pack.specs.Nodes.{decoded, node_of}
use Rattle.pack_rules.specs.Read.{expr_in}
use Rattle.pack_rules.specs.Syntax.{Expr, e_call, e_const, e_pre, e_tuple, e_var, l_bool, x_cons, x_nil}
use Rattle.pack.proofs.WrittenBack.{all_small, small_bytes}
use Rattle.machines.specs.ResolvedIn.{end_of}
use Rattle.activations.specs.declared.expr_node.ExprNode.TheVariants as mt
use Rattle.activation_rules.specs.LastCalls.{as_var, call_kind, last_name, last_rest, last_shape}
use Rattle.activation_rules.specs.BadLasts.{has_bad_last, has_bad_last_in}
use Rattle.activations.specs.ExprNodes.{call_t, expr_node, expr_node_at, first_t, last_rest_t, last_shape_t, last_two_t, on_node, on_var, plain_t}
use Rattle.activations.specs.Walks.{LastIs}
use Rattle.activations.specs.BadLastsAt.{has_bad_last_t}
use Rattle.activations.proofs.PackInfoLaws.{last-is}
use Rattle.activations.proofs.BadLastsFound.{misused-is}

unfoldable names : List Name
names = last_name ∷ (120 ∷ []) ∷ []

unfoldable bytes : List ℕ
bytes = 10 ∷ 2 ∷ 0 ∷ 7 ∷ 0 ∷ 0 ∷ 2 ∷ 0 ∷ 1 ∷ 1 ∷ 0 ∷ 5 ∷ 1 ∷ 1 ∷ 0 ∷ 7 ∷ 0 ∷ 0 ∷ 1 ∷ 0 ∷ 0 ∷ 0 ∷ 0 ∷ []

unfoldable stands : Expr
stands = e_tuple (x_cons (e_call last_name (x_cons (e_var (120 ∷ [])) (x_cons (e_pre (e_var (120 ∷ []))) x_nil))) (x_cons (e_call last_name (x_cons (e_const (l_bool false)) x_nil)) x_nil))

was_read : expr_in names bytes 0 ≡ value stands 23
unfolding stands expr_in expr_at expr_head expr_fields expr_rows expr_arity expr_of exprs_of expr_over literal literal_of call_fields flag_of name_at nth trees index below guard bind map_a byte u16 names bytes
was_read = refl

-- the tuple, the call that is replaced, the one that is not, its argument
met-tuple : expr_node_at names bytes 0 0 ≡ mt.Other 2 3
unfolding expr_in expr_at expr_head expr_fields expr_rows expr_arity expr_of exprs_of expr_over literal literal_of call_fields flag_of name_at nth trees index below guard bind map_a byte u16 names bytes expr_node_at expr_node on_node decoded node_of call_t last_shape_t first_t on_var last_rest_t last_two_t plain_t end_of
met-tuple = refl

met-last : expr_node_at names bytes 0 3 ≡ mt.Last 1 11 15
unfolding expr_in expr_at expr_head expr_fields expr_rows expr_arity expr_of exprs_of expr_over literal literal_of call_fields flag_of name_at nth trees index below guard bind map_a byte u16 names bytes expr_node_at expr_node on_node decoded node_of call_t last_shape_t first_t on_var last_rest_t last_two_t plain_t end_of
met-last = refl

met-bad : expr_node_at names bytes 0 15 ≡ mt.Bad 1 20
unfolding expr_in expr_at expr_head expr_fields expr_rows expr_arity expr_of exprs_of expr_over literal literal_of call_fields flag_of name_at nth trees index below guard bind map_a byte u16 names bytes expr_node_at expr_node on_node decoded node_of call_t last_shape_t first_t on_var last_rest_t last_two_t plain_t end_of
met-bad = refl

met-const : expr_node_at names bytes 0 20 ≡ mt.Const 23
unfolding expr_in expr_at expr_head expr_fields expr_rows expr_arity expr_of exprs_of expr_over literal literal_of call_fields flag_of name_at nth trees index below guard bind map_a byte u16 names bytes expr_node_at expr_node on_node decoded node_of call_t last_shape_t first_t on_var last_rest_t last_two_t plain_t end_of
met-const = refl

-- the premises of the theorems hold here
last-there : LastIs names 0
unfolding names Fresh member eq_name place last_name
last-there = last-is names (refl, (refl, tt))

all-bytes : Bytes bytes
unfolding bytes all_small
all-bytes = small_bytes bytes refl

found-misused : has_bad_last_t names bytes 0 0 ≡ true
unfolding names bytes stands has_bad_last has_bad_last_in call_kind last_shape last_rest as_var eq_name last_name
found-misused = misused-is names bytes (omega arith) all-bytes (omega arith) 0 last-there 0 stands 23 was_read
