-- Variables of an expression renamed.
use Rattle.pack_rules.specs.Names.{Name}
use Rattle.pack_rules.specs.Syntax.{Expr, Exprs, e_array, e_arrow, e_binary, e_call, e_cast, e_const, e_field, e_if, e_index, e_iterate, e_merge, e_pre, e_struct, e_tuple, e_unary, e_var, e_when, x_cons, x_nil}

-- Activations, samples as in `activation.rs` (`rename_var`): variables and clock names, by a function on names, so that one renaming
-- after another is the renaming by their composition
unfoldable mutual
  pub rename : (Name → Name) → Expr → Expr
  rename f (e_const l) = e_const l
  rename f (e_var x) = e_var (f x)
  rename f (e_unary o a) = e_unary o (rename f a)
  rename f (e_binary o a b) = e_binary o (rename f a) (rename f b)
  rename f (e_if a b c) = e_if (rename f a) (rename f b) (rename f c)
  rename f (e_pre a) = e_pre (rename f a)
  rename f (e_arrow a b) = e_arrow (rename f a) (rename f b)
  rename f (e_call g xs) = e_call g (renames f xs)
  rename f (e_field a g) = e_field (rename f a) g
  rename f (e_index a i) = e_index (rename f a) (rename f i)
  rename f (e_tuple xs) = e_tuple (renames f xs)
  rename f (e_array xs) = e_array (renames f xs)
  rename f (e_struct m fs xs) = e_struct m fs (renames f xs)
  rename f (e_cast t a) = e_cast t (rename f a)
  rename f (e_when a x b) = e_when (rename f a) (f x) b
  rename f (e_merge x a b) = e_merge (f x) (rename f a) (rename f b)
  rename f (e_iterate k g i xs) = e_iterate k g i (renames f xs)

  pub renames : (Name → Name) → Exprs → Exprs
  renames f x_nil = x_nil
  renames f (x_cons a xs) = x_cons (rename f a) (renames f xs)
