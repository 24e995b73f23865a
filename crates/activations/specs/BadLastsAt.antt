-- Internal: nothing here has to be believed; laws tie it to what docs/TRUSTED.md lists.
-- Calls of `last` that are misused, as the code finds them in the bytes.
use Rattle.std.specs.Prelude.{ℕ, List, Bool, false, ◌||◌}
use Rattle.pack_rules.specs.Names.{Name}
use Rattle.machines.specs.CheckedReads.{number_in, with}
use Rattle.activations.specs.declared.parts.Act.{Act}
use Rattle.activations.specs.ExprNodes.{is_bad}
use Rattle.activations.specs.Places.{any_t, body_in, branch_end, equation_end, right_side_in}
use Rattle.activations.specs.Walks.{or_step, walked}

-- whether f holds of a branch, where the count of branches stands at `at`
unfoldable pub any_branch_t : List Name → List ℕ → (ℕ → Bool) → ℕ → Bool
any_branch_t ns s f at = with (number_in s at) λ n p. any_t f (branch_end ns s) n p

module _ (ns : List Name) (s : List ℕ) (last : ℕ) where
  -- in the expression at an offset
  unfoldable pub has_bad_last_t : ℕ → Bool
  has_bad_last_t at = walked ns s last (or_step is_bad) 1 at false

  -- in an equation, in a scope whose count of equations stands at `at`
  unfoldable pub equation_has_bad_last_t : ℕ → Bool
  equation_has_bad_last_t at = has_bad_last_t (right_side_in ns s at)

  unfoldable pub scope_has_bad_last_t : ℕ → Bool
  scope_has_bad_last_t at = with (number_in s at) λ n p. any_t equation_has_bad_last_t (equation_end ns s) n p

  -- in the condition of a branch, in its scope
  unfoldable pub condition_has_bad_last_t : ℕ → Bool
  condition_has_bad_last_t at = with (number_in s at) λ i p. has_bad_last_t p

  unfoldable pub body_has_bad_last_t : ℕ → Bool
  body_has_bad_last_t at = scope_has_bad_last_t (body_in ns s at)

  -- in an activation: a condition, a scope of a branch, the else scope
  unfoldable pub any_bad_last_t : Act → Bool
  any_bad_last_t a = any_branch_t ns s condition_has_bad_last_t a.branches || (any_branch_t ns s body_has_bad_last_t a.branches || scope_has_bad_last_t a.other)
