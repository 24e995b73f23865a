-- Internal: nothing here has to be believed; laws tie it to what docs/TRUSTED.md lists.
-- What activations bring to the nodes of a package, node by node: this is how the code goes about it.
use Rattle.std.specs.Prelude.{ℕ, zero, suc, List, [], ◌∷◌, ◌++◌, cond, eqb}
use Rattle.std.proofs.Math.Option.{Option, none, some}
use Rattle.pack_rules.specs.Names.{Name}
use Rattle.pack_rules.specs.Legal.{place}
use Rattle.pack_rules.specs.Report.{Refusal}
use Rattle.pack_rules.specs.Syntax.{Activation, Enum, Node, Origin, of_activation}
use Rattle.machine_rules.specs.Machines.{extend, origin_of}
use Rattle.machines.specs.Sections.{node_names}
use Rattle.activation_rules.specs.Refusals.{unknown_owner}
use Rattle.activation_rules.specs.Checks.{branch_names, else_name}
use Rattle.activation_rules.specs.Lower.{Lowered, lowered, make, refuse}

-- a node with what was made of an activation
unfoldable pub added : Lowered → Node → Node
added (refuse r) n = n
added (make ls es) n = extend ls es n

-- the enums of a package and the names of its nodes
module _ (es : List Enum) (nodes : List Name) where
  -- the node of the place k with what an activation brings to it
  unfoldable pub joins : ℕ → Activation → Node → Node
  joins k A n = cond (eqb (place nodes A.owner) k) (added (lowered es A n) n) n

  -- with what some bring to it, one after the other
  unfoldable pub joined : ℕ → List Activation → Node → Node
  joined k [] n = n
  joined k (A ∷ As) n = joined k As (joins k A n)

-- each node by its place, from k on
unfoldable pub each_at : (ℕ → Node → Node) → ℕ → List Node → List Node
each_at f k [] = []
each_at f k (n ∷ ns) = f k n ∷ each_at f (suc k) ns

-- the node of a place, by f
unfoldable pub node_of : (Node → Node) → List Node → ℕ → Option Node
node_of f [] k = none
node_of f (n ∷ ns) zero = some (f n)
node_of f (n ∷ ns) (suc k) = node_of f ns k

-- the owner of an activation, where those `before` came before it
unfoldable pub owner_of : List Enum → List Node → List Activation → Activation → Option Node
owner_of es ns before A = node_of (joined es (node_names ns) (place (node_names ns) A.owner) before) ns (place (node_names ns) A.owner)

-- what becomes of an activation in its owner
unfoldable pub fate_in : List Enum → Activation → Option Node → Lowered
fate_in es A none = refuse (unknown_owner A.name A.owner)
fate_in es A (some n) = lowered es A n

-- the refusal in it, if there is one
unfoldable pub refusal_in : Lowered → List Refusal
refusal_in (refuse r) = r ∷ []
refusal_in (make ls es) = []

-- Activations, origins with the branches' names and the else scope's
unfoldable pub origin_in : Activation → Lowered → Option Node → List Origin
origin_in A (refuse r) o = []
origin_in A (make ls es) none = []
origin_in A (make ls es) (some n) = origin_of of_activation A.name (branch_names A.branches ++ (else_name ∷ [])) es n ∷ []

-- the enums and the nodes of a package
module _ (es : List Enum) (ns : List Node) where
  -- the refusals of activations, where those `before` came before them
  unfoldable pub refusals_of : List Activation → List Activation → List Refusal
  refusals_of before [] = []
  refusals_of before (A ∷ As) = refusal_in (fate_in es A (owner_of es ns before A)) ++ refusals_of (before ++ (A ∷ [])) As

  -- their origins
  unfoldable pub origins_of : List Activation → List Activation → List Origin
  origins_of before [] = []
  origins_of before (A ∷ As) = origin_in A (fate_in es A (owner_of es ns before A)) (owner_of es ns before A) ++ origins_of (before ++ (A ∷ [])) As
