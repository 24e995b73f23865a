-- The equations and locals of scopes.
use Rattle.std.specs.Prelude.{List, [], ◌∷◌, ◌++◌, ℕ, suc}
use Rattle.pack_rules.specs.Names.{Name}
use Rattle.pack_rules.specs.Syntax.{Branch, Equation, Expr, Port, Ty}
use Rattle.activation_rules.specs.MadeNames.{Scope, branch, value_var}
use Rattle.activation_rules.specs.Defines.{eqn, first_left}
use Rattle.activation_rules.specs.RewriteLast.{rewrite_last}
use Rattle.activation_rules.specs.FreeVars.{reads_of}
use Rattle.activation_rules.specs.Samples.{drop_in, over_samples, sample_equations, sample_locals}

-- what an equation reads of the known variables, its holders among them; collected before it is renamed
unfoldable pub scope_reads : Name → List Name → Equation → List Name
scope_reads a vars e = reads_of vars (rewrite_last a e.rhs)

-- What a run is held to: the right side of a scope as `activation.rs` rewrites it
unfoldable pub rewritten : Name → ℕ → List Name → Scope → Equation → Expr
rewritten a n vars s e = over_samples a n s (scope_reads a vars e) (rewrite_last a e.rhs)

-- Activations, scopes as in `activation.rs`: equation by equation its new samples, then its value; `old` are sampled already
unfoldable pub scope_equations : Name → ℕ → List Name → Scope → List Name → List Equation → List Equation
scope_equations a n vars s old [] = []
scope_equations a n vars s old (e ∷ es) =
    let new : List Name = drop_in old (scope_reads a vars e) in
    sample_equations a n s new
    ++ (eqn (value_var a s (first_left e.lhs)) (rewritten a n vars s e) ∷ scope_equations a n vars s (old ++ new) es)

-- the branches' scopes, from branch k on
unfoldable pub branch_equations : Name → ℕ → List Name → ℕ → List Branch → List Equation
branch_equations a n vars k [] = []
branch_equations a n vars k (b ∷ bs) = scope_equations a n vars (branch k) [] b.equations ++ branch_equations a n vars (suc k) bs

-- the types of variables, and of what is given to a left name
module _ (typed valued : Name → Ty) where
  -- a local for each equation of a scope, in the same order
  unfoldable pub scope_locals : Name → List Name → Scope → List Name → List Equation → List Port
  scope_locals a vars s old [] = []
  scope_locals a vars s old (e ∷ es) =
      let new : List Name = drop_in old (scope_reads a vars e) in
      sample_locals typed a s new
      ++ (record { name = value_var a s (first_left e.lhs); ty = valued (first_left e.lhs) } ∷ scope_locals a vars s (old ++ new) es)

  -- those of the branches' scopes, from branch k on
  unfoldable pub branch_locals : Name → List Name → ℕ → List Branch → List Port
  branch_locals a vars k [] = []
  branch_locals a vars k (b ∷ bs) = scope_locals a vars (branch k) [] b.equations ++ branch_locals a vars (suc k) bs
