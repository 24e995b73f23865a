-- Internal: nothing here has to be believed; laws tie it to what docs/TRUSTED.md lists.
-- One activation judged in a node.
use Rattle.std.specs.Prelude.{ℕ, suc, ◌<◌, List, ◌∷◌, ◌++◌, cond, ◌≡◌, length, ltb, Result, Ok, Err}
use Rattle.wire.specs.Writer.{full}
use Rattle.wire.specs.Bytes.{word_range}
use Rattle.pack_rules.specs.Names.{Name}
use Rattle.pack_rules.specs.Legal.{place}
use Rattle.pack_rules.specs.Syntax.{Activation, Enum, Node}
use Rattle.machines.specs.Sections.{node_names}
use Rattle.activations.specs.declared.checks.Refused.{Refused}
use Rattle.activations.specs.declared.checks.Refusal.{Refusal}
use Rattle.activations.specs.Refusing.{numbers_of}
use Rattle.activation_rules.specs.Lower.{lowered}
use Rattle.activations.specs.Joining.{added, joined}
use Rattle.activations.specs.LocalsAt.{Left}
use Rattle.activations.specs.ChecksAt.{refused_t}
use Rattle.activations.specs.ActTable.{goal_t, judged_t, made_t, refusal_t, spot_t}
use Rattle.activations.specs.PackInfoAt.{Types}
use Rattle.activations.specs.Fates.{FateIs}

-- a name's number in 16 bits: all past the number of names are `else`
unfoldable pub within_t : ℕ → ℕ → ℕ
within_t names x = cond (ltb names x) (suc names) x

-- a refusal with its names' numbers in 16 bits
unfoldable pub refused_in : ℕ → ℕ → ℕ → ℕ → Refused
refused_in names kind second third = refused_t kind (within_t names second) (within_t names third)

-- what a judgement puts into a row, by words of 16 bits, and how many locals
unfoldable pub row_refused : ℕ → Refusal → Refused
row_refused names r = refused_in names (numbers_of names r).kind (numbers_of names r).second (numbers_of names r).third

unfoldable pub row_judged : ℕ → Result ℕ Refusal → Refused
row_judged names (Ok n) = refused_t 0 names names
row_judged names (Err r) = row_refused names r

unfoldable pub locals_of : Result ℕ Refusal → ℕ
locals_of (Ok n) = n
locals_of (Err r) = 0

-- the pass over locals where nothing is written
unfoldable pub quiet : List ℕ → Left
quiet later = record { later = later; state = full; count = 0 }

-- what it leaves: how many locals, and the types for the next activation
abbrev pub LeftAs : ℕ → List ℕ → Left → Type 0
LeftAs n later z = (n ≡ z.count) × (later ≡ z.later)

-- in a node whose types the table had: its fate, by words of 16 bits, and the types of the node with what is made of it
pub record JudgedIn (ns : List Name) (es : List Enum) (s : List ℕ) (A : Activation) (n : Node) (r : Refused) (locals : ℕ) (later : List ℕ) : Type 0 where
  pub fate : FateIs ns A.name r locals (lowered es A n)
  pub types : Types ns s (added (lowered es A n) n) later
  pub words : (r.kind < word_range) × (r.second < word_range) × (r.third < word_range) × (locals < word_range)

-- the same of the row i, where the judgement is put
pub record RowJudged (ns : List Name) (es : List Enum) (s : List ℕ) (A : Activation) (n : Node) (i : ℕ) (acts acts' later : List ℕ) : Type 0 where
  pub refused : Refused
  pub locals : ℕ
  pub judged : JudgedIn ns es s A n refused locals later
  pub put : acts' ≡ judged_t acts i refused locals

-- all activations stand as before and go where they went, and those of which P holds are judged as before
unfoldable pub RowsKept : (ℕ → Type 0) → List ℕ → List ℕ → Type 0
RowsKept P acts acts' = (i : ℕ) → i < 6656 → (spot_t acts' i ≡ spot_t acts i) × (goal_t acts' i ≡ goal_t acts i) × (P i → (refusal_t acts' i ≡ refusal_t acts i) × (made_t acts' i ≡ made_t acts i))

-- of the activations As those that go to the node n, which has the place k, are judged, each after those before it
pub record NodeJudged (ns : List Name) (es : List Enum) (N : List Node) (As : List Activation) (k : ℕ) (n : Node) (acts acts' : List ℕ) : Type 0 where
  pub fates : (before : List Activation) (A : Activation) (post : List Activation) → As ≡ before ++ (A ∷ post) → place (node_names N) A.owner ≡ k
      → FateIs ns A.name (refusal_t acts' (length before)) (made_t acts' (length before)) (lowered es A (joined es (node_names N) k before n))
  pub kept : RowsKept (λ i. goal_t acts i ≡ k → ⊥) acts acts'
