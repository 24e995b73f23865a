-- What `last` starts from where no initial value is given.
use Rattle.std.specs.Prelude.{List, [], ◌∷◌, false, cond}
use Rattle.std.proofs.Math.Option.{Option, none, some}
use Rattle.pack_rules.specs.Names.{Name, eq_name}
use Rattle.pack_rules.specs.Report.{first_of}
use Rattle.pack_rules.specs.Syntax.{Enum, Expr, Ty, e_const, e_var, l_bool, l_char, l_float, l_int, t_array, t_bool, t_char, t_float32, t_float64, t_int16, t_int32, t_int64, t_int8, t_named, t_uint16, t_uint32, t_uint64, t_uint8}

-- the first of some names
unfoldable pub first_name : List Name → Option Name
first_name [] = none
first_name (n ∷ ns) = some n

-- Activations, `first_variant` of `project.rs`: of enums with one name the last that has variants
unfoldable pub first_variant : List Enum → Name → Option Name
first_variant [] n = none
first_variant (e ∷ es) n = first_of (first_variant es n) (cond (eq_name e.name n) (first_name e.variants) none)

-- a name as an expression
unfoldable pub as_variable : Option Name → Option Expr
as_variable none = none
as_variable (some v) = some (e_var v)

-- Activations, holders as in `activation.rs` (`default_of`): arrays, and named types that are no enum with variants, have none
unfoldable pub default_of : List Enum → Ty → Option Expr
default_of es t_bool = some (e_const (l_bool false))
default_of es t_int8 = some (e_const (l_int 0))
default_of es t_int16 = some (e_const (l_int 0))
default_of es t_int32 = some (e_const (l_int 0))
default_of es t_int64 = some (e_const (l_int 0))
default_of es t_uint8 = some (e_const (l_int 0))
default_of es t_uint16 = some (e_const (l_int 0))
default_of es t_uint32 = some (e_const (l_int 0))
default_of es t_uint64 = some (e_const (l_int 0))
default_of es t_float32 = some (e_const (l_float 0))
default_of es t_float64 = some (e_const (l_float 0))
default_of es t_char = some (e_const (l_char 0))
default_of es (t_array n t) = none
default_of es (t_named n) = as_variable (first_variant es n)
