-- Internal: nothing here has to be believed; laws tie it to what docs/TRUSTED.md lists.
-- The variables made for a region, as the code names them.
use Rattle.std.specs.Prelude.{[], ◌∷◌, ◌++◌, ℕ}
use Rattle.pack_rules.specs.Names.{Name}
use Rattle.machines.specs.declared.made_names.Var.{Var}
use Rattle.machines.specs.declared.made_names.Var.TheVariants as vr
use Rattle.machine_rules.specs.MadeNames.{active_var, next_var, sm_prefix, state_var}

-- the name of a region's state, of its next state, and of whether it is active
unfoldable pub var_name : Var → ℕ → Name
var_name vr.State id = state_var id
var_name vr.Next id = next_var id
var_name vr.Active id = active_var id

-- `__sm_r`, before a region's id
unfoldable pub region_prefix : Name
region_prefix = sm_prefix ++ (114 ∷ [])
