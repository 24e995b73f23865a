-- Internal: nothing here has to be believed; laws tie it to what docs/TRUSTED.md lists.
-- Types as tables have them: where a type stands in the pack, 1 for Bool where none stands, 0 for none.
use Rattle.std.specs.Prelude.{ℕ, List, cond, get_or, eqb, ltb}
use Rattle.std.proofs.Math.Option.{Option, none, some}
use Rattle.wire.specs.Answer.{Answer, value, early, illegal, deep}
use Rattle.pack_rules.specs.Names.{Name}
use Rattle.pack_rules.specs.Syntax.{Ty, t_bool}
use Rattle.pack_rules.specs.Read.{type_in}
use Rattle.machines.specs.CheckedReads.{first_some}

-- what was read, where something was
unfoldable pub read_ty : Answer Ty → Option Ty
read_ty (value t q) = some t
read_ty early = none
read_ty (illegal o) = none
read_ty (deep o) = none

-- the type of a code
unfoldable pub type_at : List Name → List ℕ → ℕ → Option Ty
type_at ns s c = cond (eqb c 0) none (cond (eqb c 1) (some t_bool) (read_ty (type_in ns s c)))

-- an output's code, by a name's number; holders that are no old names are no outputs
unfoldable pub out_t : List ℕ → ℕ → ℕ → ℕ
out_t outs names x = cond (ltb x names) (get_or outs x 0) 0

-- as typed: the variable's, else the output's
unfoldable pub typed_t : List ℕ → List ℕ → ℕ → ℕ → ℕ
typed_t env outs names x = first_some (get_or env x 0) (out_t outs names x)

-- as value_type: the output's, else the variable's, else Bool
unfoldable pub value_type_t : List ℕ → List ℕ → ℕ → ℕ → ℕ
value_type_t env outs names x = first_some (out_t outs names x) (first_some (get_or env x 0) 1)
