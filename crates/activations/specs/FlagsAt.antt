-- Internal: nothing here has to be believed; laws tie it to what docs/TRUSTED.md lists.
-- The flags of branches as the code writes them, branch by branch.
use Rattle.std.specs.Prelude.{ℕ, zero, suc, List, [], ◌∷◌, ◌++◌, cond, ltb}
use Rattle.std.proofs.Math.Option.{Option, none, some}
use Rattle.wire.specs.Writer.{State}
use Rattle.pack_rules.specs.Names.{Name}
use Rattle.pack_rules.specs.Syntax.{Expr, e_var}
use Rattle.pack_rules.specs.Write.{Item, expr_items, list, name_items, raw}
use Rattle.pack.specs.Intern.{render}
use Rattle.machines.specs.CheckedReads.{number_in, with}
use Rattle.activation_rules.specs.MadeNames.{flag_var, none_var}
use Rattle.activations.specs.Places.{branch_end}
use Rattle.activations.specs.Passes.{pass_t}
use Rattle.activations.specs.RewriteLastAt.{rewrite_last_t}

-- that no branch before k is taken; nothing is before the first
unfoldable pub prior_of : Name → ℕ → Option Expr
prior_of a zero = none
prior_of a (suc k) = some (e_var (none_var a k))

-- what stands before the condition of the branch k
unfoldable pub prior_items : Name → ℕ → List Item
prior_items a zero = []
prior_items a (suc k) = raw (3 ∷ 0 ∷ []) ∷ expr_items (e_var (none_var a k))

-- the equations of a branch up to the condition: its flag, and that none up to it is taken
unfoldable pub flag_items : Name → ℕ → List Item
flag_items a k = list name_items (flag_var a k ∷ []) ++ prior_items a k

unfoldable pub none_flag_items : Name → ℕ → List Item
none_flag_items a k = list name_items (none_var a k ∷ []) ++ (prior_items a k ++ (raw (2 ∷ 0 ∷ []) ∷ []))

module _ (ns : List Name) (s : List ℕ) (last : ℕ) (old offsets : List ℕ) (a : Name) where
  -- the flag of the branch k, whose condition stands at `at`
  unfoldable pub flag_t : ℕ → ℕ → State → State
  flag_t k at z = rewrite_last_t ns s last old offsets a at (render old (flag_items a k) z)

  -- that none is taken, where another of n branches follows
  unfoldable pub none_flag_t : ℕ → ℕ → ℕ → State → State
  none_flag_t n k at z = cond (ltb 1 n) (rewrite_last_t ns s last old offsets a at (render old (none_flag_items a k) z)) z

  -- both, of the branch at p
  unfoldable pub branch_flags_t : ℕ → ℕ → ℕ → State → State
  branch_flags_t n k p z = with (number_in s p) λ i at. none_flag_t n k at (flag_t k at z)

  -- of all branches, whose count stands at `at`
  unfoldable pub flags_t : ℕ → State → State
  flags_t at z = with (number_in s at) λ n p. pass_t branch_flags_t (branch_end ns s) n 0 p z
