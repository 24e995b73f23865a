-- Internal: nothing here has to be believed; laws tie it to what docs/TRUSTED.md lists.
-- What the tables of nodes and activations stand for.
use Rattle.std.specs.Prelude.{ℕ, suc, ◌%◌, List, [], ◌∷◌, ◌++◌, ◌≡◌, length, get_or}
use Rattle.std.proofs.Math.Option.{none, some}
use Rattle.wire.specs.Answer.{value}
use Rattle.wire.specs.Bytes.{word_range}
use Rattle.pack_rules.specs.Names.{Name}
use Rattle.pack_rules.specs.Legal.{place}
use Rattle.pack_rules.specs.Syntax.{Activation, Enum, Node}
use Rattle.pack_rules.specs.Read.{activation_in, node_in}
use Rattle.machines.specs.Sections.{node_names}
use Rattle.activations.specs.declared.checks.Refused.{Refused}
use Rattle.activation_rules.specs.Refusals.{unknown_owner}
use Rattle.activation_rules.specs.Lower.{Lowered, make, refuse}
use Rattle.activations.specs.ChecksAt.{refusal_by}
use Rattle.activations.specs.ActTable.{goal_t, made_t, refusal_t, spot_t}
use Rattle.activations.specs.Joining.{fate_in, owner_of}

-- what was judged of an activation of the name a: its refusal, or how many locals it makes
unfoldable pub FateIs : List Name → Name → Refused → ℕ → Lowered → Type 0
FateIs ns a r n (refuse x) = refusal_by ns a r ≡ some x
FateIs ns a r n (make ls es) = (refusal_by ns a r ≡ none) × (n ≡ length ls % word_range)

-- the node n was read there
pub record NodeRead (ns : List Name) (s : List ℕ) (at : ℕ) (n : Node) : Type 0 where
  pub end : ℕ
  pub read : node_in ns s at ≡ value n end

-- the nodes stand where the table says
abbrev pub NodeAt : List Name → List ℕ → List ℕ → ℕ → Node → Type 0
NodeAt ns s nodes k n = NodeRead ns s (get_or nodes k 0) n

unfoldable pub NodesFrom : List Name → List ℕ → List ℕ → ℕ → List Node → Type 0
NodesFrom ns s nodes k [] = Unit {0}
NodesFrom ns s nodes k (n ∷ N) = NodeAt ns s nodes k n × NodesFrom ns s nodes (suc k) N

-- the activation of the row i stands where the table says, and goes to the first node of its owner's name
pub record DrawnAt (ns : List Name) (s : List ℕ) (nodes : List Name) (acts : List ℕ) (i : ℕ) (A : Activation) : Type 0 where
  pub end : ℕ
  pub read : activation_in ns s (spot_t acts i) ≡ value A end
  pub goal : goal_t acts i ≡ place nodes A.owner

-- the activations As of a package, whose nodes are N and whose enums are es; a row is told by the activations before it
module _ (ns : List Name) (s : List ℕ) (es : List Enum) (N : List Node) (As : List Activation) (acts : List ℕ) where
  -- each stands where its row says, and the row has the place of its owner
  abbrev pub Drawn : Type 0
  Drawn = (before : List Activation) (A : Activation) (post : List Activation) → As ≡ before ++ (A ∷ post) → DrawnAt ns s (node_names N) acts (length before) A

  -- the row of each says its fate, by its owner with what those before it brought there
  abbrev pub Fates : Type 0
  Fates = (before : List Activation) (A : Activation) (post : List Activation) → As ≡ before ++ (A ∷ post) → FateIs ns A.name (refusal_t acts (length before)) (made_t acts (length before)) (fate_in es A (owner_of es N before A))

  -- those that have no owner are refused for that
  abbrev pub Unowned : Type 0
  Unowned = (before : List Activation) (A : Activation) (post : List Activation) → As ≡ before ++ (A ∷ post) → place (node_names N) A.owner ≡ length N → FateIs ns A.name (refusal_t acts (length before)) (made_t acts (length before)) (refuse (unknown_owner A.name A.owner))
