-- Internal: nothing here has to be believed; laws tie it to what docs/TRUSTED.md lists.
-- How much room the layout of a resolved machine takes.
use Rattle.std.specs.Prelude.{ℕ, suc, ◌+◌}
use Rattle.machine_rules.specs.Resolved.{ResolvedRegions, ResolvedStates, r_cons, r_nil, s_cons, s_nil}

-- how many states, those in regions among them: what the limit counts
unfoldable mutual
  pub count_s : ResolvedStates → ℕ
  count_s s_nil = 0
  count_s (s_cons s es ts rs rest) = suc (count_r rs + count_s rest)

  pub count_r : ResolvedRegions → ℕ
  count_r r_nil = 0
  count_r (r_cons i h ss rest) = count_s ss + count_r rest

-- whether there are states, as a number
unfoldable pub any_s : ResolvedStates → ℕ
any_s s_nil = 0
any_s (s_cons s es ts rs rest) = 1

-- how many regions have states: of the others one at most is laid out
unfoldable mutual
  pub filled_s : ResolvedStates → ℕ
  filled_s s_nil = 0
  filled_s (s_cons s es ts rs rest) = filled_r rs + filled_s rest

  pub filled_r : ResolvedRegions → ℕ
  filled_r r_nil = 0
  filled_r (r_cons i h ss rest) = (any_s ss + filled_s ss) + filled_r rest
