-- The variables that calls of `last` ask for, in the order found.
use Rattle.std.specs.Prelude.{List, [], ◌∷◌, ◌++◌, cond}
use Rattle.std.proofs.Math.Option.{Option}
use Rattle.pack_rules.specs.Names.{Name, eq_name}
use Rattle.pack_rules.specs.Report.{first_of}
use Rattle.pack_rules.specs.Syntax.{Activation, Branch, Equation, Expr, Exprs, e_array, e_arrow, e_binary, e_call, e_cast, e_const, e_field, e_if, e_index, e_iterate, e_merge, e_pre, e_struct, e_tuple, e_unary, e_var, e_when, x_cons, x_nil}
use Rattle.activation_rules.specs.LastCalls.{bad_last, call_kind, last_of, plain}

-- a variable with its initial value, where one is given
pub record Sought : Type 0 where
  pub var : Name
  pub init : Option Expr

-- Activations: the first given initial stays; a variable is noted once
unfoldable pub note : Name → Option Expr → List Sought → List Sought
note v i [] = record { var = v; init = i } ∷ []
note v i (h ∷ hs) = cond (eq_name h.var v) (record { var = h.var; init = first_of h.init i } ∷ hs) (h ∷ note v i hs)

-- Activations: what an expression adds, its nodes in preorder; a replaced call is not entered, so neither is an initial
unfoldable mutual
  pub sought : Expr → List Sought → List Sought
  sought (e_const l) hs = hs
  sought (e_var x) hs = hs
  sought (e_unary o a) hs = sought a hs
  sought (e_binary o a b) hs = sought b (sought a hs)
  sought (e_if a b c) hs = sought c (sought b (sought a hs))
  sought (e_pre a) hs = sought a hs
  sought (e_arrow a b) hs = sought b (sought a hs)
  sought (e_call f xs) hs = elim (call_kind f xs) [ plain ↦ sought_in xs hs | bad_last ↦ sought_in xs hs | last_of v i ↦ note v i hs ]
  sought (e_field a f) hs = sought a hs
  sought (e_index a i) hs = sought i (sought a hs)
  sought (e_tuple xs) hs = sought_in xs hs
  sought (e_array xs) hs = sought_in xs hs
  sought (e_struct n fs xs) hs = sought_in xs hs
  sought (e_cast t a) hs = sought a hs
  sought (e_when a x b) hs = sought a hs
  sought (e_merge x a b) hs = sought b (sought a hs)
  sought (e_iterate k f i xs) hs = sought_in xs hs

  pub sought_in : Exprs → List Sought → List Sought
  sought_in x_nil hs = hs
  sought_in (x_cons a xs) hs = sought_in xs (sought a hs)

-- the right sides of a scope
unfoldable pub right_sides : List Equation → List Expr
right_sides [] = []
right_sides (e ∷ es) = e.rhs ∷ right_sides es

-- the conditions of branches
unfoldable pub conditions : List Branch → List Expr
conditions [] = []
conditions (b ∷ bs) = b.condition ∷ conditions bs

-- the right sides of the branches' scopes
unfoldable pub bodies : List Branch → List Expr
bodies [] = []
bodies (b ∷ bs) = right_sides b.equations ++ bodies bs

-- Activations: all conditions, then scope by scope, the else scope last
unfoldable pub expressions : Activation → List Expr
expressions A = conditions A.branches ++ (bodies A.branches ++ right_sides A.else_equations)

-- what expressions ask for, in their order
unfoldable pub found : List Expr → List Sought → List Sought
found [] hs = hs
found (e ∷ es) hs = found es (sought e hs)
