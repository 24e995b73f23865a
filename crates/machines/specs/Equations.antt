-- Internal: nothing here has to be believed; laws tie it to what docs/TRUSTED.md lists.
-- The equations of a region one by one, as the code writes them.
use Rattle.std.specs.Prelude.{ℕ, [], ◌∷◌, Bool}
use Rattle.pack_rules.specs.Names.{Name}
use Rattle.pack_rules.specs.Syntax.{Equation}
use Rattle.machine_rules.specs.MadeNames.{active_var, state_var}
use Rattle.machine_rules.specs.Lower.{active_in, state_rhs}

-- the first of an inner region
unfoldable pub active_equation : ℕ → Bool → ℕ → Name → Equation
active_equation id top parent s = record { lhs = active_var id ∷ []; rhs = active_in top parent s }

-- its second; the top region's first has history
unfoldable pub state_equation : ℕ → Name → Bool → Equation
state_equation id initial history = record { lhs = state_var id ∷ []; rhs = state_rhs id initial history }
