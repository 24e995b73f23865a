-- Internal: nothing here has to be believed; laws tie it to what docs/TRUSTED.md lists.
-- What activations bring to a node, one after the other, and how it is written.
use Rattle.std.specs.Prelude.{ℕ, ◌+◌, List, [], ◌∷◌, ◌++◌, cond, ◌≡◌, length, eqb}
use Rattle.wire.specs.Bytes.{two}
use Rattle.wire.specs.Writer.{State}
use Rattle.pack_rules.specs.Names.{Name}
use Rattle.pack_rules.specs.Legal.{place}
use Rattle.pack_rules.specs.Syntax.{Activation, Enum, Equation, Node, Port}
use Rattle.pack_rules.specs.Write.{Item, equation_items, kind_byte, list, nm, port_items, raw}
use Rattle.pack.specs.Intern.{render}
use Rattle.machines.specs.AddedAt.{total_t}
use Rattle.machines.specs.Sections.{node_names}
use Rattle.activation_rules.specs.Lower.{Lowered, lowered, make, refuse}
use Rattle.activations.specs.Joining.{added, joined, joins, refusals_of}
use Rattle.activations.specs.CountsAt.{adds_equations_t, adds_locals_t}
use Rattle.activations.specs.PackInfoAt.{Types}
use Rattle.activations.specs.Fates.{Drawn, Fates, NodesFrom}

-- what is made of an activation: locals, equations
unfoldable pub ports_of : Lowered → List Port
ports_of (refuse r) = []
ports_of (make ls qs) = ls

unfoldable pub equations_of : Lowered → List Equation
equations_of (refuse r) = []
equations_of (make ls qs) = qs

-- an activation that was not refused
unfoldable pub IsMade : Lowered → Type 0
IsMade (refuse r) = ⊥
IsMade (make ls qs) = Unit {0}

-- those of some activations that go to a node of the place k
module _ {X : Type 0} (es : List Enum) (nodes : List Name) (f : Lowered → List X) (k : ℕ) where
  -- one after the other, each lowered in the node with what those before it brought
  unfoldable pub brought : List Activation → Node → List X
  brought [] n = []
  brought (A ∷ As) n = cond (eqb (place nodes A.owner) k) (f (lowered es A n)) [] ++ brought As (joins es nodes k A n)

-- the activations of As that go to the node n, which has the place k, are not refused
abbrev pub AllMade : List Enum → List Node → List Activation → ℕ → Node → Type 0
AllMade es N As k n = (before : List Activation) (A : Activation) (post : List Activation) → As ≡ before ++ (A ∷ post) → place (node_names N) A.owner ≡ k → IsMade (lowered es A (joined es (node_names N) k before n))

-- the counts of 16 bits that n activations of the table give are those of the node with what they bring
pub record Counted (s : List ℕ) (es : List Enum) (N : List Node) (As : List Activation) (k : ℕ) (m : Node) (acts : List ℕ) (n : ℕ) : Type 0 where
  pub locals : two (length m.locals + total_t (adds_locals_t acts k) n 0) ≡ two (length (joined es (node_names N) k As m).locals)
  pub equations : two (length m.equations + total_t (adds_equations_t s acts k) n 0) ≡ two (length (joined es (node_names N) k As m).equations)

-- the tables of all nodes and activations: none is refused
pub record Settled (ns : List Name) (s : List ℕ) (es : List Enum) (N : List Node) (As : List Activation) (nodes acts : List ℕ) (m n : ℕ) : Type 0 where
  pub stand : NodesFrom ns s nodes 0 N
  pub many : length N ≡ m
  pub drawn : Drawn ns s es N As acts
  pub count : length As ≡ n
  pub fates : Fates ns s es N As acts
  pub accepted : refusals_of es N [] As ≡ []

-- a node's items up to its equations, and its equations
unfoldable pub head_items : Node → List Item
head_items n = nm n.name ∷ raw (kind_byte n.kind ∷ []) ∷ (list port_items n.inputs ++ (list port_items n.outputs ++ list port_items n.locals))

unfoldable pub tail_items : Node → List Item
tail_items n = list equation_items n.equations

-- items of an activation that is made in the node n are written, and the table has the types of the node with what is made
pub record RowWritten (ns : List Name) (es : List Enum) (s old : List ℕ) (A : Activation) (n : Node) (items : List Item) (z z' : State) (later : List ℕ) : Type 0 where
  pub written : z' ≡ render old items z
  pub types : Types ns s (added (lowered es A n) n) later
