-- Scope equations without left names.
use Rattle.std.specs.Prelude.{List, [], ◌∷◌, Bool, true, false, ◌||◌}
use Rattle.pack_rules.specs.Names.{Name}
use Rattle.pack_rules.specs.Syntax.{Activation, Branch, Equation}

-- whether there is no left name
unfoldable pub nameless : List Name → Bool
nameless [] = true
nameless (x ∷ xs) = false

-- whether a scope has such an equation
unfoldable pub leftless : List Equation → Bool
leftless [] = false
leftless (e ∷ es) = nameless e.lhs || leftless es

-- whether a branch's scope has one
unfoldable pub leftless_branch : List Branch → Bool
leftless_branch [] = false
leftless_branch (b ∷ bs) = leftless b.equations || leftless_branch bs

-- Report, kind 18: a scope equation without left names, in a branch or in the else scope
unfoldable pub has_empty_left : Activation → Bool
has_empty_left A = leftless_branch A.branches || leftless A.else_equations
