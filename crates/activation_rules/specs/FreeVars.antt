-- What an expression reads.
use Rattle.std.specs.Prelude.{List, [], ◌∷◌, ◌++◌, cond}
use Rattle.pack_rules.specs.Names.{Name, member}
use Rattle.pack_rules.specs.Syntax.{Expr, Exprs, e_array, e_arrow, e_binary, e_call, e_cast, e_const, e_field, e_if, e_index, e_iterate, e_merge, e_pre, e_struct, e_tuple, e_unary, e_var, e_when, x_cons, x_nil}

-- a name more, where it is not there yet
unfoldable pub push : Name → List Name → List Name
push x l = cond (member x l) l (l ++ (x ∷ []))

-- Activations, samples as in `activation.rs` (`free_vars`): variables and the clock names of `when` and `merge`, each once, in preorder
unfoldable mutual
  pub free_vars : Expr → List Name → List Name
  free_vars (e_const l) r = r
  free_vars (e_var x) r = push x r
  free_vars (e_unary o a) r = free_vars a r
  free_vars (e_binary o a b) r = free_vars b (free_vars a r)
  free_vars (e_if a b c) r = free_vars c (free_vars b (free_vars a r))
  free_vars (e_pre a) r = free_vars a r
  free_vars (e_arrow a b) r = free_vars b (free_vars a r)
  free_vars (e_call f xs) r = free_vars_in xs r
  free_vars (e_field a f) r = free_vars a r
  free_vars (e_index a i) r = free_vars i (free_vars a r)
  free_vars (e_tuple xs) r = free_vars_in xs r
  free_vars (e_array xs) r = free_vars_in xs r
  free_vars (e_struct n fs xs) r = free_vars_in xs r
  free_vars (e_cast t a) r = free_vars a r
  free_vars (e_when a x b) r = free_vars a (push x r)
  free_vars (e_merge x a b) r = free_vars b (free_vars a (push x r))
  free_vars (e_iterate k f i xs) r = free_vars_in xs r

  pub free_vars_in : Exprs → List Name → List Name
  free_vars_in x_nil r = r
  free_vars_in (x_cons a xs) r = free_vars_in xs (free_vars a r)

-- those of the names that are among `vars`
unfoldable pub keep_in : List Name → List Name → List Name
keep_in vars [] = []
keep_in vars (x ∷ xs) = cond (member x vars) (x ∷ keep_in vars xs) (keep_in vars xs)

-- what an expression reads of the known variables: enum values and constants of the package are no reads
unfoldable pub reads_of : List Name → Expr → List Name
reads_of vars e = keep_in vars (free_vars e [])
