-- Sampled copies of what a scope reads.
use Rattle.std.specs.Prelude.{List, [], ◌∷◌, cond, ℕ}
use Rattle.pack_rules.specs.Names.{Name, eq_name, member}
use Rattle.pack_rules.specs.Syntax.{Equation, Expr, Port, Ty, e_var}
use Rattle.activation_rules.specs.MadeNames.{Scope, sample_var}
use Rattle.activation_rules.specs.Defines.{eqn}
use Rattle.activation_rules.specs.Clocks.{onto}
use Rattle.activation_rules.specs.Renames.{rename}
use Rattle.activation_rules.specs.SampledConstants.{sample_value}

-- Activations, samples as in `activation.rs`: of the names read those that the scope has not sampled yet
unfoldable pub drop_in : List Name → List Name → List Name
drop_in old [] = []
drop_in old (x ∷ xs) = cond (member x old) (drop_in old xs) (x ∷ drop_in old xs)

-- Activations, samples as in `activation.rs`: each variable on the scope's clock
unfoldable pub sample_equations : Name → ℕ → Scope → List Name → List Equation
sample_equations a n s [] = []
sample_equations a n s (v ∷ vs) = eqn (sample_var a s v) (onto a n s (e_var v)) ∷ sample_equations a n s vs

-- their locals, each of its variable's type
unfoldable pub sample_locals : (Name → Ty) → Name → Scope → List Name → List Port
sample_locals typed a s [] = []
sample_locals typed a s (v ∷ vs) = record { name = sample_var a s v; ty = typed v } ∷ sample_locals typed a s vs

-- the names read, each renamed to its sample, one after the other: a later one meets what an earlier one made
unfoldable pub renamed : Name → Scope → List Name → Name → Name
renamed a s [] x = x
renamed a s (v ∷ vs) x = renamed a s vs (cond (eq_name x v) (sample_var a s v) x)

-- Activations, scopes as in `activation.rs`: a right side over samples of what it reads; one that reads nothing is pinned
unfoldable pub over_samples : Name → ℕ → Scope → List Name → Expr → Expr
over_samples a n s [] e = sample_value (onto a n s) e
over_samples a n s (v ∷ vs) e = rename (renamed a s (v ∷ vs)) e
