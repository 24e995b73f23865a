-- Where the equations of a definition stand in a lowered package.
use Rattle.std.specs.Prelude.{◌≡◌, List, [], ◌∷◌, ◌++◌, ℕ, zero, suc, ◌-◌, ◌≤◌, drop, length, take}
use Rattle.std.proofs.Math.Option.{Option, none, some}
use Rattle.pack_rules.specs.Names.{Name}
use Rattle.pack_rules.specs.Syntax.{Activation, Equation, MachineDef, Node, Origin, OriginKind, Package, of_machine}
use Rattle.machine_rules.specs.Resolved.{ResolvedMachine}
use Rattle.machine_rules.specs.Lower.{equations_of}
use Rattle.machine_rules.specs.Machines.{Progress, lower_each, node_named, start}
use Rattle.activation_rules.specs.Activations.{activate_each}

-- what stands at a place of a list
unfoldable pub entry : {A : Type 0} → ℕ → List A → Option A
entry n [] = none
entry zero (x ∷ xs) = some x
entry (suc n) (x ∷ xs) = entry n xs

-- the equations of a node, where there is one
unfoldable pub equations_from : Option Node → List Equation
equations_from none = []
equations_from (some n) = n.equations

-- the equations of the first node of a name
unfoldable pub equations_named : Name → List Node → List Equation
equations_named o ns = equations_from (node_named o ns)

-- the equations from `first` up to `after`
unfoldable pub slice : ℕ → ℕ → List Equation → List Equation
slice first after l = take (after - first) (drop first l)

-- the block of equations that an origin names
unfoldable pub block_of : Option Origin → List Node → List Equation
block_of none ns = []
block_of (some r) ns = slice r.first r.after (equations_named r.node ns)

-- what had been made when a definition was lowered, by those before it
unfoldable pub machines_before : Package → List MachineDef → Progress
machines_before p pre = lower_each p.machines pre (start p)

-- the same of activations
unfoldable pub activations_before : Package → List Activation → Progress
activations_before p pre = activate_each pre (start p)

-- the equations that stand for a machine after k was made: the block that its origin names; without owner, the first equations of its
-- node, as many as are its own
unfoldable pub machine_equations_in : Option Name → ResolvedMachine → Progress → List Node → List Origin → List Equation
machine_equations_in none m k nodes origins = take (length (equations_of m)) (equations_from (entry (length k.nodes) nodes))
machine_equations_in (some o) m k nodes origins = block_of (entry (length k.origins) origins) nodes

-- the equations that stand for an activation: the block that its origin names
unfoldable pub act_equations_in : Progress → List Node → List Origin → List Equation
act_equations_in k nodes origins = block_of (entry (length k.origins) origins) nodes

-- a block of equations `es` of the owner, the first node of its name, by an origin of that kind and name
pub record Block (kind : OriginKind) (name owner : Name) (branches : List Name) (es : List Equation) (k : Progress) (nodes : List Node) (origins : List Origin) : Type 0 where
  pub origin : Origin
  pub recorded : entry (length k.origins) origins ≡ some origin
  pub names-node : origin.node ≡ owner
  pub of-kind : origin.kind ≡ kind
  pub of-name : origin.name ≡ name
  pub of-branches : origin.branches ≡ branches
  pub node : Node
  pub named : node_named owner nodes ≡ some node
  pub within : origin.after ≤ length node.equations
  pub stands : slice origin.first origin.after node.equations ≡ es

-- a node of the machine's own; after its equations come those of machines and activations that it owns
pub record OwnNode (m : ResolvedMachine) (k : Progress) (nodes : List Node) : Type 0 where
  pub node : Node
  pub stays : entry (length k.nodes) nodes ≡ some node
  pub named : node.name ≡ m.name
  pub later : List Equation
  pub stands : node.equations ≡ equations_of m ++ later

-- a machine: in its owner, or in its own node
abbrev pub PlacedIn : Option Name → ResolvedMachine → Progress → List Node → List Origin → Type 0
PlacedIn none m k nodes origins = OwnNode m k nodes
PlacedIn (some o) m k nodes origins = Block of_machine m.name o [] (equations_of m) k nodes origins
