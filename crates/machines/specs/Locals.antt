-- Internal: nothing here has to be believed; laws tie it to what docs/TRUSTED.md lists.
-- The locals made for a machine's regions: they depend on the number of regions only, and not on what they hold.
use Rattle.std.specs.Prelude.{ℕ, zero, suc, List, [], ◌∷◌, ◌++◌}
use Rattle.machines.specs.declared.made_names.Var.{Var}
use Rattle.pack_rules.specs.Names.{Name}
use Rattle.pack_rules.specs.Syntax.{Port, t_bool, t_named}
use Rattle.machine_rules.specs.MadeNames.{active_var, enum_name}
use Rattle.machine_rules.specs.Lower.{region_locals}
use Rattle.machines.specs.Vars.{var_name}

-- a region's state or next state, of the region's enum
unfoldable pub state_port : Var → Name → ℕ → Port
state_port v m id = record { name = var_name v id; ty = t_named (enum_name m id) }

-- whether a region is active
unfoldable pub active_port : ℕ → Port
active_port id = record { name = active_var id; ty = t_bool }

-- the locals of so many regions from an id on
unfoldable pub inner_locals : Name → ℕ → ℕ → List Port
inner_locals m id zero = []
inner_locals m id (suc k) = (region_locals m id ++ (active_port id ∷ [])) ++ inner_locals m (suc id) k
