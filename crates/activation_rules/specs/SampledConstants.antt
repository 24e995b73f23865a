-- Constants pinned to a clock.
use Rattle.std.specs.Prelude.{Bool, true, false, cond, ◌||◌}
use Rattle.pack_rules.specs.Syntax.{Expr, Exprs, e_array, e_arrow, e_binary, e_call, e_cast, e_const, e_field, e_if, e_index, e_iterate, e_merge, e_pre, e_struct, e_tuple, e_unary, e_var, e_when, x_cons, x_nil}

-- Activations, scopes as in `activation.rs`: each constant of an expression, by f
unfoldable mutual
  pub sample_constants : (Expr → Expr) → Expr → Expr
  sample_constants f (e_const l) = f (e_const l)
  sample_constants f (e_var x) = e_var x
  sample_constants f (e_unary o a) = e_unary o (sample_constants f a)
  sample_constants f (e_binary o a b) = e_binary o (sample_constants f a) (sample_constants f b)
  sample_constants f (e_if a b c) = e_if (sample_constants f a) (sample_constants f b) (sample_constants f c)
  sample_constants f (e_pre a) = e_pre (sample_constants f a)
  sample_constants f (e_arrow a b) = e_arrow (sample_constants f a) (sample_constants f b)
  sample_constants f (e_call g xs) = e_call g (sample_constants_in f xs)
  sample_constants f (e_field a g) = e_field (sample_constants f a) g
  sample_constants f (e_index a i) = e_index (sample_constants f a) (sample_constants f i)
  sample_constants f (e_tuple xs) = e_tuple (sample_constants_in f xs)
  sample_constants f (e_array xs) = e_array (sample_constants_in f xs)
  sample_constants f (e_struct m fs xs) = e_struct m fs (sample_constants_in f xs)
  sample_constants f (e_cast t a) = e_cast t (sample_constants f a)
  sample_constants f (e_when a x b) = e_when (sample_constants f a) x b
  sample_constants f (e_merge x a b) = e_merge x (sample_constants f a) (sample_constants f b)
  sample_constants f (e_iterate k g i xs) = e_iterate k g i (sample_constants_in f xs)

  pub sample_constants_in : (Expr → Expr) → Exprs → Exprs
  sample_constants_in f x_nil = x_nil
  sample_constants_in f (x_cons a xs) = x_cons (sample_constants f a) (sample_constants_in f xs)

-- whether an expression has a constant
unfoldable mutual
  pub has_const : Expr → Bool
  has_const (e_const l) = true
  has_const (e_var x) = false
  has_const (e_unary o a) = has_const a
  has_const (e_binary o a b) = has_const a || has_const b
  has_const (e_if a b c) = has_const a || (has_const b || has_const c)
  has_const (e_pre a) = has_const a
  has_const (e_arrow a b) = has_const a || has_const b
  has_const (e_call g xs) = has_consts xs
  has_const (e_field a g) = has_const a
  has_const (e_index a i) = has_const a || has_const i
  has_const (e_tuple xs) = has_consts xs
  has_const (e_array xs) = has_consts xs
  has_const (e_struct m fs xs) = has_consts xs
  has_const (e_cast t a) = has_const a
  has_const (e_when a x b) = has_const a
  has_const (e_merge x a b) = has_const a || has_const b
  has_const (e_iterate k g i xs) = has_consts xs

  pub has_consts : Exprs → Bool
  has_consts x_nil = false
  has_consts (x_cons a xs) = has_const a || has_consts xs

-- Charts to try, mistakes close by: constants are sampled, and the whole value only where there is none
unfoldable pub sample_value : (Expr → Expr) → Expr → Expr
sample_value f e = cond (has_const e) (sample_constants f e) (f e)
