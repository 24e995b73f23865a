-- Calls of `last` with arguments that it does not take.
use Rattle.std.specs.Prelude.{List, [], ◌∷◌, Bool, true, false, ◌||◌}
use Rattle.pack_rules.specs.Syntax.{Expr, Exprs, e_array, e_arrow, e_binary, e_call, e_cast, e_const, e_field, e_if, e_index, e_iterate, e_merge, e_pre, e_struct, e_tuple, e_unary, e_var, e_when, x_cons, x_nil}
use Rattle.activation_rules.specs.LastCalls.{bad_last, call_kind, last_of, plain}

-- Activations: whether some call of `last` has another shape; a call that is replaced is not entered
unfoldable mutual
  pub has_bad_last : Expr → Bool
  has_bad_last (e_const l) = false
  has_bad_last (e_var x) = false
  has_bad_last (e_unary o a) = has_bad_last a
  has_bad_last (e_binary o a b) = has_bad_last a || has_bad_last b
  has_bad_last (e_if a b c) = has_bad_last a || (has_bad_last b || has_bad_last c)
  has_bad_last (e_pre a) = has_bad_last a
  has_bad_last (e_arrow a b) = has_bad_last a || has_bad_last b
  has_bad_last (e_call f xs) = elim (call_kind f xs) [ plain ↦ has_bad_last_in xs | bad_last ↦ true | last_of v i ↦ false ]
  has_bad_last (e_field a f) = has_bad_last a
  has_bad_last (e_index a i) = has_bad_last a || has_bad_last i
  has_bad_last (e_tuple xs) = has_bad_last_in xs
  has_bad_last (e_array xs) = has_bad_last_in xs
  has_bad_last (e_struct n fs xs) = has_bad_last_in xs
  has_bad_last (e_cast t a) = has_bad_last a
  has_bad_last (e_when a x b) = has_bad_last a
  has_bad_last (e_merge x a b) = has_bad_last a || has_bad_last b
  has_bad_last (e_iterate k f i xs) = has_bad_last_in xs

  pub has_bad_last_in : Exprs → Bool
  has_bad_last_in x_nil = false
  has_bad_last_in (x_cons a xs) = has_bad_last a || has_bad_last_in xs

-- whether one of these expressions misuses `last`
unfoldable pub any_bad_last : List Expr → Bool
any_bad_last [] = false
any_bad_last (e ∷ es) = has_bad_last e || any_bad_last es
