-- What is refused of an activation before its holders are made, in order; the first is its refusal.
use Rattle.std.specs.Prelude.{List, [], ◌∷◌, cond}
use Rattle.std.proofs.Math.Option.{Option, none, some}
use Rattle.pack_rules.specs.Names.{Name}
use Rattle.pack_rules.specs.Report.{Refusal, as_refusal, first_of}
use Rattle.pack_rules.specs.Syntax.{Activation, Branch, Equation, Port}
use Rattle.machine_rules.specs.Lower.{is_some, own_value}
use Rattle.machine_rules.specs.Checks.{repeated}
use Rattle.activation_rules.specs.Refusals.{duplicate_branch, last_args, no_branches, no_outputs, output_unassigned}
use Rattle.activation_rules.specs.BadLasts.{any_bad_last}
use Rattle.activation_rules.specs.Sought.{expressions}

-- Activations, the first check of `lower`
unfoldable pub branchless : Name → List Branch → Option Refusal
branchless a [] = some (no_branches a)
branchless a (b ∷ bs) = none

-- Activations, the second check of `lower`
unfoldable pub outputless : Name → List Port → Option Refusal
outputless a [] = some (no_outputs a)
outputless a (p ∷ ps) = none

-- the names of branches, in order
unfoldable pub branch_names : List Branch → List Name
branch_names [] = []
branch_names (b ∷ bs) = b.name ∷ branch_names bs

-- `else`, as the else scope is called in reports and origins
unfoldable pub else_name : Name
else_name = 101 ∷ 108 ∷ 115 ∷ 101 ∷ []

-- a scope assigns an output by an equation with the output as its single left name
unfoldable pub unless_assigned : Name → Name → Name → List Equation → Option Refusal
unless_assigned a o b es = cond (is_some (own_value o es)) none (some (output_unassigned a o b))

-- an output in the branches' scopes, in order
unfoldable pub in_branches : Name → Name → List Branch → Option Refusal
in_branches a o [] = none
in_branches a o (b ∷ bs) = first_of (unless_assigned a o b.name b.equations) (in_branches a o bs)

-- Activations, the fourth check of `lower`: output by output, each in all branches and then in the else scope
unfoldable pub in_scopes : Activation → List Port → Option Refusal
in_scopes A [] = none
in_scopes A (p ∷ ps) =
    first_of (in_branches A.name p.name A.branches)
    (first_of (unless_assigned A.name p.name else_name A.else_equations)
    (in_scopes A ps))

-- Activations: an argument shape other than the two is LastArgs
unfoldable pub misuse : Activation → Option Refusal
misuse A = cond (any_bad_last (expressions A)) (some (last_args A.name)) none

-- Activations: `lower`'s checks in order, up to `last` being sought
unfoldable pub checks : Activation → Option Refusal
checks A =
    first_of (branchless A.name A.branches)
    (first_of (outputless A.name A.outputs)
    (first_of (as_refusal (λ b. duplicate_branch A.name b) (repeated [] (branch_names A.branches)))
    (first_of (in_scopes A A.outputs)
    (misuse A))))
