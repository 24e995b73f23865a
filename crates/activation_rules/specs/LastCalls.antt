-- Calls of `last`, told by their name and the shape of their arguments.
use Rattle.std.specs.Prelude.{[], ◌∷◌, cond}
use Rattle.std.proofs.Math.Option.{Option, none, some}
use Rattle.pack_rules.specs.Names.{Name, eq_name}
use Rattle.pack_rules.specs.Syntax.{Expr, Exprs, e_array, e_arrow, e_binary, e_call, e_cast, e_const, e_field, e_if, e_index, e_iterate, e_merge, e_pre, e_struct, e_tuple, e_unary, e_var, e_when, x_cons, x_nil}

-- `last`
unfoldable pub last_name : Name
last_name = 108 ∷ 97 ∷ 115 ∷ 116 ∷ []

-- the name of an expression that is a variable
unfoldable pub as_var : Expr → Option Name
as_var (e_const l) = none
as_var (e_var x) = some x
as_var (e_unary o a) = none
as_var (e_binary o a b) = none
as_var (e_if a b c) = none
as_var (e_pre a) = none
as_var (e_arrow a b) = none
as_var (e_call f xs) = none
as_var (e_field a f) = none
as_var (e_index a i) = none
as_var (e_tuple xs) = none
as_var (e_array xs) = none
as_var (e_struct n fs xs) = none
as_var (e_cast t a) = none
as_var (e_when a x b) = none
as_var (e_merge x a b) = none
as_var (e_iterate k f i xs) = none

-- what a call is: none of `last`, one of other arguments, or one of a variable with perhaps an initial value
pub data CallKind : Type 0 where
  plain bad_last : CallKind
  last_of : Name → Option Expr → CallKind

-- Activations: the argument shapes of `last`, after the first argument
unfoldable pub last_rest : Option Name → Exprs → CallKind
last_rest none xs = bad_last
last_rest (some v) x_nil = last_of v none
last_rest (some v) (x_cons i x_nil) = last_of v (some i)
last_rest (some v) (x_cons i (x_cons j xs)) = bad_last

-- Activations: a variable, or a variable and an initial value; any other shape is bad
unfoldable pub last_shape : Exprs → CallKind
last_shape x_nil = bad_last
last_shape (x_cons e xs) = last_rest (as_var e) xs

-- Activations: what isn't a call of `last` is passed over
unfoldable pub call_kind : Name → Exprs → CallKind
call_kind f xs = cond (eq_name f last_name) (last_shape xs) plain
