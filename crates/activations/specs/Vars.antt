-- Internal: nothing here has to be believed; laws tie it to what docs/TRUSTED.md lists.
-- The variables made for a branch, as the code names them.
use Rattle.std.specs.Prelude.{cond, ℕ, ltb}
use Rattle.pack_rules.specs.Names.{Name}
use Rattle.activations.specs.declared.made_names.Var.{Var}
use Rattle.activations.specs.declared.made_names.Var.TheVariants as vr
use Rattle.activation_rules.specs.MadeNames.{Scope, branch, clock_var, else_scope, flag_var, none_var}

-- the name of a branch's flag, of the flag that none up to it is taken, and of its clock
unfoldable pub branch_var : Var → Name → ℕ → Name
branch_var vr.Flag a k = flag_var a k
branch_var vr.Untaken a k = none_var a k
branch_var vr.Clock a k = clock_var a k

-- as `tag` in `activation.rs` counts them: the scope k of n branches, the else scope after them
unfoldable pub scope_at : ℕ → ℕ → Scope
scope_at n k = cond (ltb k n) (branch k) else_scope
