-- Outputs, merged from the scopes.
use Rattle.std.specs.Prelude.{List, [], ◌∷◌, ℕ, suc}
use Rattle.pack_rules.specs.Names.{Name}
use Rattle.pack_rules.specs.Syntax.{Equation, Expr, Port, e_merge, e_var}
use Rattle.activation_rules.specs.MadeNames.{branch, clock_var, else_scope, value_var}
use Rattle.activation_rules.specs.Defines.{eqn}

-- an output from the scopes of the branches from k on, and the else scope
unfoldable pub merge_from : Name → Name → ℕ → List Expr → Expr
merge_from a o k [] = e_var (value_var a else_scope o)
merge_from a o k (c ∷ cs) = e_merge (clock_var a k) (e_var (value_var a (branch k) o)) (merge_from a o (suc k) cs)

-- Activations, merges as in `activation.rs`: one equation for each output, in order
unfoldable pub merge_equations : Name → List Expr → List Port → List Equation
merge_equations a cs [] = []
merge_equations a cs (p ∷ ps) = eqn p.name (merge_from a p.name 0 cs) ∷ merge_equations a cs ps
