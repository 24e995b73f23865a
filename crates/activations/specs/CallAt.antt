-- Internal: nothing here has to be believed; laws tie it to what docs/TRUSTED.md lists.
-- What a call begins with.
use Rattle.std.specs.Prelude.{ℕ, ◌+◌, ◌≤◌, List, ◌≡◌, get_or, length}
use Rattle.pack.specs.declared.record.Pack.{Pack}
use Rattle.activations.specs.declared.pack_info.PackInfo.{PackInfo}
use Rattle.activation_rules.specs.LastCalls.{last_name}
use Rattle.activations.specs.Lookups.{some_made_t, place_in}

-- what is known of the pack as a whole
unfoldable pub base_t : List ℕ → List ℕ → Pack → List ℕ → PackInfo
base_t old s x offsets = record { names = x.names; last = place_in old last_name; enums = x.enums; made = some_made_t s offsets x.names }

-- tables as long as a pack asks: two bytes a name, 11 a node and 10 an activation; past the names' places no first variant yet
pub record Blank (offsets nodes acts : List ℕ) : Type 0 where
  pub for_names : 50176 ≤ length offsets
  pub no_first : (x : ℕ) → get_or offsets (32768 + x) 0 ≡ 0
  pub for_nodes : 6656 ≤ length nodes
  pub for_acts : 39936 ≤ length acts
