-- The names that lowering a machine makes; regions have ids in preorder, the top region 0.
use Rattle.std.specs.Prelude.{[], ◌∷◌, ◌++◌, ℕ, zero, suc}
use Rattle.pack_rules.specs.Names.{Name}
use Rattle.wire.specs.Decimal.{decimal}

-- `__sm_`
unfoldable pub sm_prefix : Name
sm_prefix = 95 ∷ 95 ∷ 115 ∷ 109 ∷ 95 ∷ []

-- `__sm_state`, `__sm_r<id>_state`
unfoldable pub state_var : ℕ → Name
state_var zero = sm_prefix ++ (115 ∷ 116 ∷ 97 ∷ 116 ∷ 101 ∷ [])
state_var (suc n) = sm_prefix ++ (114 ∷ (decimal (suc n) ++ (95 ∷ 115 ∷ 116 ∷ 97 ∷ 116 ∷ 101 ∷ [])))

-- `__sm_next_state`, `__sm_r<id>_next`
unfoldable pub next_var : ℕ → Name
next_var zero = sm_prefix ++ (110 ∷ 101 ∷ 120 ∷ 116 ∷ 95 ∷ 115 ∷ 116 ∷ 97 ∷ 116 ∷ 101 ∷ [])
next_var (suc n) = sm_prefix ++ (114 ∷ (decimal (suc n) ++ (95 ∷ 110 ∷ 101 ∷ 120 ∷ 116 ∷ [])))

-- `__sm_r<id>_active`
unfoldable pub active_var : ℕ → Name
active_var n = sm_prefix ++ (114 ∷ (decimal n ++ (95 ∷ 97 ∷ 99 ∷ 116 ∷ 105 ∷ 118 ∷ 101 ∷ [])))

-- `<machine>_StateEnum`, `<machine>_r<id>_StateEnum`
unfoldable pub enum_name : Name → ℕ → Name
enum_name m zero = m ++ (95 ∷ 83 ∷ 116 ∷ 97 ∷ 116 ∷ 101 ∷ 69 ∷ 110 ∷ 117 ∷ 109 ∷ [])
enum_name m (suc n) = m ++ (95 ∷ 114 ∷ (decimal (suc n) ++ (95 ∷ 83 ∷ 116 ∷ 97 ∷ 116 ∷ 101 ∷ 69 ∷ 110 ∷ 117 ∷ 109 ∷ [])))
