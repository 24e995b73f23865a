-- Internal: nothing here has to be believed; laws tie it to what docs/TRUSTED.md lists.
-- What holds of every variable that the calls of `last` in an expression ask for.
use Rattle.pack_rules.specs.Names.{Name}
use Rattle.pack_rules.specs.Syntax.{Expr, Exprs, e_array, e_arrow, e_binary, e_call, e_cast, e_const, e_field, e_if, e_index, e_iterate, e_merge, e_pre, e_struct, e_tuple, e_unary, e_var, e_when, x_cons, x_nil}
use Rattle.activation_rules.specs.LastCalls.{CallKind, bad_last, call_kind, last_of, plain}

-- of a call: the variable where it is replaced, else what holds of its arguments
unfoldable pub OfCall : (Name → Type 0) → Type 0 → CallKind → Type 0
OfCall P under plain = under
OfCall P under bad_last = under
OfCall P under (last_of v i) = P v

-- a call that is replaced is not entered
unfoldable mutual
  pub Asked : (Name → Type 0) → Expr → Type 0
  Asked P (e_const l) = Unit {0}
  Asked P (e_var x) = Unit {0}
  Asked P (e_unary o a) = Asked P a
  Asked P (e_binary o a b) = Asked P a × Asked P b
  Asked P (e_if a b c) = Asked P a × Asked P b × Asked P c
  Asked P (e_pre a) = Asked P a
  Asked P (e_arrow a b) = Asked P a × Asked P b
  Asked P (e_call f xs) = OfCall P (AskedIn P xs) (call_kind f xs)
  Asked P (e_field a f) = Asked P a
  Asked P (e_index a i) = Asked P a × Asked P i
  Asked P (e_tuple xs) = AskedIn P xs
  Asked P (e_array xs) = AskedIn P xs
  Asked P (e_struct n fs xs) = AskedIn P xs
  Asked P (e_cast t a) = Asked P a
  Asked P (e_when a x b) = Asked P a
  Asked P (e_merge x a b) = Asked P a × Asked P b
  Asked P (e_iterate k f i xs) = AskedIn P xs

  pub AskedIn : (Name → Type 0) → Exprs → Type 0
  AskedIn P x_nil = Unit {0}
  AskedIn P (x_cons a xs) = Asked P a × AskedIn P xs
