-- The clocks of scopes, and the guards that carry them.
use Rattle.std.specs.Prelude.{List, [], ◌∷◌, true, false, ℕ, zero, suc}
use Rattle.pack_rules.specs.Names.{Name}
use Rattle.pack_rules.specs.Syntax.{Equation, Expr, e_var, e_when}
use Rattle.activation_rules.specs.MadeNames.{Scope, branch, clock_var, else_scope, flag_var}
use Rattle.activation_rules.specs.Defines.{eqn}

-- as `under` in `activation.rs`: e on the clock where no branch before k is taken
unfoldable pub under : Name → ℕ → Expr → Expr
under a zero e = e
under a (suc k) e = e_when (under a k e) (clock_var a k) false

-- as `onto` in `activation.rs`: e on a scope's clock, of n branches
unfoldable pub onto : Name → ℕ → Scope → Expr → Expr
onto a n (branch k) e = e_when (under a k e) (clock_var a k) true
onto a n else_scope e = under a n e

-- Activations, guards as in `activation.rs`: those of the branches from k on; the first branch has none
unfoldable pub guard_equations : Name → ℕ → List Expr → List Equation
guard_equations a k [] = []
guard_equations a k (c ∷ cs) = eqn (clock_var a k) (under a k (e_var (flag_var a k))) ∷ guard_equations a (suc k) cs
