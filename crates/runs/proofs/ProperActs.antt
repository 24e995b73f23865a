-- What the activations are lowered to may be written.
use native.Mathlib.Omega.{arith}
use mathlib.Core.List.{List, [], ◌∷◌, ◌++◌}
use mathlib.Core.Bool.{Bool, true, false, cond}
use mathlib.Core.Option.{Option, none, some}
use mathlib.Core.Path.{◌≡◌, refl}
use Rattle.wire.specs.Lists.{All}
use Rattle.pack_rules.specs.Legal.{Allowed}
use Rattle.pack_rules.specs.Read.{name_byte}
use Rattle.pack_rules.specs.Report.{Refusal}
use Rattle.pack_rules.specs.Syntax.{Activation, Branch, Enum, Equation, Node, Port, of_activation}
use Rattle.pack.proofs.Tables.{all_append}
use Rattle.machine_rules.specs.Machines.{Progress, node_named}
use Rattle.activation_rules.specs.Activations.{activate_each, add_activation, owned}
use Rattle.activation_rules.specs.Checks.{branch_names, checks, else_name}
use Rattle.activation_rules.specs.EmptyLeft.{has_empty_left}
use Rattle.activation_rules.specs.Holders.{Holding, holders_made, make_holders, refused}
use Rattle.activation_rules.specs.Lower.{Lowered, lowered, make, makes, refuse, unless, with_holders}
use Rattle.activation_rules.specs.Refusals.{empty_left, unknown_owner}
use Rattle.activation_rules.specs.Sought.{bodies, conditions, expressions, found, right_sides}
use Rattle.activation_rules.specs.Types.{readable, sample_type, value_type, variables}
use Rattle.machines.proofs.RefusalNames.{Maybe}
use Rattle.runs.proofs.Proper.{ProperE, ProperEnum, ProperNode, ProperPort, ProperQ}
use Rattle.runs.proofs.ProperDrawn.{ProperActivation, ProperBranch}
use Rattle.runs.proofs.ProperHolders.{ProperHolding, hold-proper, sample-type, value-type}
use Rattle.runs.proofs.ProperLasts.{found-proper}
use Rattle.runs.proofs.ProperMade.{ProperMade, grown-proper, node-of-proper, refusing-proper}
use Rattle.runs.proofs.ProperScopes.{act-equations, act-locals}

-- all right sides
right-sides : (es : List Equation) → All ProperQ es → All ProperE (right_sides es)
unfolding right_sides All
right-sides [] a = tt
right-sides (e ∷ es) a = (a.0.rhs, right-sides es a.1)

all-conditions : (bs : List Branch) → All ProperBranch bs → All ProperE (conditions bs)
unfolding conditions All
all-conditions [] a = tt
all-conditions (b ∷ bs) a = (a.0.condition, all-conditions bs a.1)

all-bodies : (bs : List Branch) → All ProperBranch bs → All ProperE (bodies bs)
unfolding bodies All
all-bodies [] a = tt
all-bodies (b ∷ bs) a = all_append ProperE (right_sides b.equations) (bodies bs) (right-sides b.equations a.0.equations) (all-bodies bs a.1)

expressions-proper : (A : Activation) → ProperActivation A → All ProperE (expressions A)
unfolding expressions
expressions-proper A o =
    all_append ProperE (conditions A.branches) (bodies A.branches ++ right_sides A.else_equations) (all-conditions A.branches o.branches)
    (all_append ProperE (bodies A.branches) (right_sides A.else_equations) (all-bodies A.branches o.branches) (right-sides A.else_equations o.else_equations))

-- what an activation makes
unfoldable pub ProperLowered : Lowered → Type 0
ProperLowered (refuse r) = Unit {0}
ProperLowered (make ls es) = All ProperPort ls × All ProperQ es

made-proper : (A : Activation) (env : List Port) (x : Holding) → ProperActivation A → All ProperPort env → ProperHolding x → ProperLowered (with_holders A env x)
unfolding with_holders makes ProperLowered ProperHolding
made-proper A env (refused r) o h k = tt
made-proper A env (holders_made ps es) o h k = go (has_empty_left A)
  where
    e : All ProperPort (env ++ ps)
    e = all_append ProperPort env ps h k.0

    go : (b : Bool) → ProperLowered (cond b (refuse (empty_left A.name)) (makes A (env ++ ps) ps es))
    go true = tt
    go false = (
      act-locals (sample_type (env ++ ps) A.outputs) (value_type (env ++ ps) A.outputs) A ps (readable (env ++ ps) A.outputs) (sample-type (env ++ ps) A.outputs e o.outputs) (value-type (env ++ ps) A.outputs e o.outputs) o k.0,
      act-equations A es (readable (env ++ ps) A.outputs) o k.1,
    )

variables-proper : (n : Node) → ProperNode n → All ProperPort (variables n)
unfolding variables
variables-proper n o = all_append ProperPort n.inputs (n.outputs ++ n.locals) o.inputs (all_append ProperPort n.outputs n.locals o.outputs o.locals)

unless-proper : (r : Option Refusal) (l : Lowered) → ProperLowered l → ProperLowered (unless r l)
unfolding unless ProperLowered
unless-proper none l h = h
unless-proper (some r) l h = tt

lowered-proper : (es : List Enum) (A : Activation) (n : Node) → All ProperEnum es → ProperActivation A → ProperNode n → ProperLowered (lowered es A n)
unfolding lowered All
lowered-proper es A n he o hn =
    let v = variables-proper n hn in
    let x = make_holders es A.name (variables n) A.outputs (found (expressions A) []) in
    unless-proper (checks A) (with_holders A (variables n) x)
    (made-proper A (variables n) x o v (hold-proper es A.name (variables n) A.outputs (found (expressions A) []) o.name.1 he v o.outputs (found-proper (expressions A) [] (expressions-proper A o) tt)))

branch-names : (bs : List Branch) → All ProperBranch bs → All Allowed (branch_names bs ++ (else_name ∷ []))
unfolding branch_names All else_name name_byte
branch-names [] a = ((omega arith, (refl, (refl, (refl, (refl, tt))))), tt)
branch-names (b ∷ bs) a = (a.0.name, branch-names bs a.1)

into-proper : (A : Activation) (n : Node) (l : Lowered) (k : Progress) → node_named A.owner k.nodes ≡ some n → ProperActivation A → ProperLowered l → ProperMade k → ProperMade (add_activation A n l k)
unfolding add_activation ProperLowered All
into-proper A n (refuse r) k e o h g = refusing-proper r k g
into-proper A n (make ls es) k e o h g =
    let w = grown-proper [] of_activation A.name (branch_names A.branches ++ (else_name ∷ [])) A.owner ls es n k e tt o.name (branch-names A.branches o.branches) h.0 h.1 g in
    record { enums = g.enums; nodes = w.nodes; origins = w.origins; formed = w.formed }

owned-proper : (A : Activation) (k : Progress) → ProperActivation A → ProperMade k → ProperMade (owned A (node_named A.owner k.nodes) k)
unfolding owned Maybe
owned-proper A k o g = go (node_named A.owner k.nodes) refl (node-of-proper A.owner k.nodes g.nodes)
  where
    go : (x : Option Node) → node_named A.owner k.nodes ≡ x → Maybe ProperNode x → ProperMade (owned A x k)
    go none e h = refusing-proper (unknown_owner A.name A.owner) k g
    go (some n) e h = into-proper A n (lowered k.enums A n) k e o (lowered-proper k.enums A n g.enums o h) g

pub activate-each-proper : (xs : List Activation) (k : Progress) → All ProperActivation xs → ProperMade k → ProperMade (activate_each xs k)
unfolding activate_each All
activate-each-proper [] k a g = g
activate-each-proper (A ∷ xs) k a g = activate-each-proper xs (owned A (node_named A.owner k.nodes) k) a.1 (owned-proper A k a.0 g)
