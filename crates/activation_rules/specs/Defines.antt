-- A variable that is made: its equation, and its local.
use Rattle.std.specs.Prelude.{List, [], ◌∷◌}
use Rattle.pack_rules.specs.Names.{Name}
use Rattle.pack_rules.specs.Syntax.{Equation, Expr, Port, Ty}

-- an equation with a single left name
unfoldable pub eqn : Name → Expr → Equation
eqn x e = record { lhs = x ∷ []; rhs = e }

-- the first left name: the one that a scope's value is made for
unfoldable pub first_left : List Name → Name
first_left [] = []
first_left (x ∷ xs) = x

-- Activations, as `define` in `activation.rs`: a local for each equation, in the same order
unfoldable pub as_locals : Ty → List Equation → List Port
as_locals t [] = []
as_locals t (e ∷ es) = record { name = first_left e.lhs; ty = t } ∷ as_locals t es
