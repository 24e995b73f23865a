-- Calls of `last` rewritten.
use Rattle.std.specs.Prelude.{List, [], ◌∷◌}
use Rattle.pack_rules.specs.Names.{Name}
use Rattle.pack_rules.specs.Syntax.{Branch, Expr, Exprs, e_array, e_arrow, e_binary, e_call, e_cast, e_const, e_field, e_if, e_index, e_iterate, e_merge, e_pre, e_struct, e_tuple, e_unary, e_var, e_when, x_cons, x_nil}
use Rattle.activation_rules.specs.MadeNames.{last_var}
use Rattle.activation_rules.specs.LastCalls.{bad_last, call_kind, last_of, plain}

-- Activations: each call of `last` becomes its holder; rewriting doesn't enter a replaced call
unfoldable mutual
  pub rewrite_last : Name → Expr → Expr
  rewrite_last n (e_const l) = e_const l
  rewrite_last n (e_var x) = e_var x
  rewrite_last n (e_unary o a) = e_unary o (rewrite_last n a)
  rewrite_last n (e_binary o a b) = e_binary o (rewrite_last n a) (rewrite_last n b)
  rewrite_last n (e_if a b c) = e_if (rewrite_last n a) (rewrite_last n b) (rewrite_last n c)
  rewrite_last n (e_pre a) = e_pre (rewrite_last n a)
  rewrite_last n (e_arrow a b) = e_arrow (rewrite_last n a) (rewrite_last n b)
  rewrite_last n (e_call f xs) = elim (call_kind f xs) [ plain ↦ e_call f (rewrite_lasts n xs) | bad_last ↦ e_call f (rewrite_lasts n xs) | last_of v i ↦ e_var (last_var n v) ]
  rewrite_last n (e_field a f) = e_field (rewrite_last n a) f
  rewrite_last n (e_index a i) = e_index (rewrite_last n a) (rewrite_last n i)
  rewrite_last n (e_tuple xs) = e_tuple (rewrite_lasts n xs)
  rewrite_last n (e_array xs) = e_array (rewrite_lasts n xs)
  rewrite_last n (e_struct m fs xs) = e_struct m fs (rewrite_lasts n xs)
  rewrite_last n (e_cast t a) = e_cast t (rewrite_last n a)
  rewrite_last n (e_when a x b) = e_when (rewrite_last n a) x b
  rewrite_last n (e_merge x a b) = e_merge x (rewrite_last n a) (rewrite_last n b)
  rewrite_last n (e_iterate k f i xs) = e_iterate k f i (rewrite_lasts n xs)

  pub rewrite_lasts : Name → Exprs → Exprs
  rewrite_lasts n x_nil = x_nil
  rewrite_lasts n (x_cons a xs) = x_cons (rewrite_last n a) (rewrite_lasts n xs)

-- What a run is held to: a call of `last` means its holder's value in a condition too
unfoldable pub conditions_of : Name → List Branch → List Expr
conditions_of a [] = []
conditions_of a (b ∷ bs) = rewrite_last a b.condition ∷ conditions_of a bs
