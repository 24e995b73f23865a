-- The flags of branches, on the clock of every cycle.
use Rattle.std.specs.Prelude.{List, [], ◌∷◌, ℕ, suc}
use Rattle.std.proofs.Math.Option.{Option, none, some}
use Rattle.pack_rules.specs.Names.{Name}
use Rattle.pack_rules.specs.Syntax.{Equation, Expr, e_binary, e_unary, e_var, o_and, o_not}
use Rattle.activation_rules.specs.MadeNames.{flag_var, none_var}
use Rattle.activation_rules.specs.Defines.{eqn}

-- a condition where no branch before is taken; nothing is before the first
unfoldable pub and_also : Option Expr → Expr → Expr
and_also none c = c
and_also (some p) c = e_binary o_and p c

-- Activations, flags as in `activation.rs`: whether branch i is taken, and where a branch follows whether none is up to i
unfoldable pub flag_equations : Name → Option Expr → ℕ → List Expr → List Equation
flag_equations a prior i [] = []
flag_equations a prior i (c ∷ []) = eqn (flag_var a i) (and_also prior c) ∷ []
flag_equations a prior i (c ∷ d ∷ cs) =
    eqn (flag_var a i) (and_also prior c)
    ∷ eqn (none_var a i) (and_also prior (e_unary o_not c))
    ∷ flag_equations a (some (e_var (none_var a i))) (suc i) (d ∷ cs)
