-- The scope of an activation in a cycle, and what it gives for an output.
use Rattle.std.specs.Prelude.{◌≡◌, List, [], ◌∷◌, Bool, true, false, cond, ℕ, suc, ◌<◌, length, eqb}
use Rattle.std.proofs.Math.Option.{Option}
use Rattle.pack_rules.specs.Names.{Name}
use Rattle.pack_rules.specs.Syntax.{Activation, Branch, Equation, Expr, Port}
use Rattle.machine_rules.specs.Lower.{is_only}
use Rattle.activation_rules.specs.MadeNames.{Scope, branch, else_scope}
use Rattle.activation_rules.specs.RewriteLast.{conditions_of, rewrite_last}
use Rattle.activation_rules.specs.Scopes.{rewritten}
use Rattle.run_rules.specs.Run.{Clock, Run, Value, eval}

-- each condition's value in each cycle; a call of `last` in it is its holder
abbrev pub Conditions : Type 0
Conditions = Expr → ℕ → Bool

-- the first of the branches from k on whose condition is true, else the else scope
unfoldable pub choice : Conditions → ℕ → ℕ → List Expr → Scope
choice C t k [] = else_scope
choice C t k (c ∷ cs) = cond (C c t) (branch k) (choice C t (suc k) cs)

-- the scope of an activation in a cycle
unfoldable pub scope_in : Conditions → Activation → ℕ → Scope
scope_in C A t = choice C t 0 (conditions_of A.name A.branches)

-- the equations of that scope
unfoldable pub chosen : Conditions → Name → ℕ → List Branch → List Equation → List Equation
chosen C a t [] others = others
chosen C a t (b ∷ bs) others = cond (C (rewrite_last a b.condition) t) b.equations (chosen C a t bs others)

-- whether two scopes are one
unfoldable pub eq_scope : Scope → Scope → Bool
eq_scope (branch i) (branch j) = eqb i j
eq_scope (branch i) else_scope = false
eq_scope else_scope (branch j) = false
eq_scope else_scope else_scope = true

-- the clock of a scope: the cycles in which it is the scope
unfoldable pub scope_clock : Conditions → Activation → Scope → Clock
scope_clock C A s u = eq_scope (scope_in C A u) s

-- what a scope's equations give for an output: of each that has it as its single left name, the right side as `activation.rs` rewrites it
unfoldable pub given_by : Name → ℕ → List Name → Scope → Name → List Equation → List Expr
given_by a n vars s o [] = []
given_by a n vars s o (e ∷ es) = cond (is_only o e.lhs) (rewritten a n vars s e ∷ given_by a n vars s o es) (given_by a n vars s o es)

-- each of some right sides has the value w on a clock in a cycle
abbrev pub AllGive : {O : Type 0} → Run O → Clock → ℕ → Option (Value O) → List Expr → Type 0
AllGive R c t w [] = Unit {0}
AllGive R c t w (e ∷ es) = (w ≡ eval R e c t) × AllGive R c t w es

-- In a cycle the output equals what the scope of the cycle gives for it, on the clock of that scope: each of the equations for it, of which
-- there is at least one. `vars` are what its scopes may read.
abbrev pub OutputGiven : {O : Type 0} → Run O → Conditions → Activation → List Name → Name → ℕ → Type 0
OutputGiven R C A vars o t =
    (e : Expr)
    × (es : List Expr)
    × (given_by A.name (length (conditions_of A.name A.branches)) vars (scope_in C A t) o (chosen C A.name t A.branches A.else_equations) ≡ e ∷ es)
    × AllGive R (scope_clock C A (scope_in C A t)) t (R.at o t) (e ∷ es)

-- each output, in every cycle before N
abbrev pub OutputsGiven : {O : Type 0} → Run O → ℕ → Conditions → Activation → List Name → List Port → Type 0
OutputsGiven R N C A vars [] = Unit {0}
OutputsGiven R N C A vars (p ∷ ps) = ((t : ℕ) → t < N → OutputGiven R C A vars p.name t) × OutputsGiven R N C A vars ps
