-- Internal: nothing here has to be believed; laws tie it to what docs/TRUSTED.md lists.
-- Passes over an expression: its nodes in preorder, a step at each.
use Rattle.std.specs.Prelude.{ℕ, zero, suc, ◌-◌, ◌<◌, List, [], ◌∷◌, Bool, cond, ◌||◌, ◌≡◌, length, eqb}
use Rattle.std.proofs.Math.Option.{Option, none, some}
use Rattle.wire.specs.Answer.{value}
use Rattle.wire.specs.Writer.{State}
use Rattle.pack_rules.specs.Names.{Name, eq_name}
use Rattle.pack_rules.specs.Forms.{name_at}
use Rattle.pack_rules.specs.Read.{expr_in}
use Rattle.pack_rules.specs.Syntax.{Expr}
use Rattle.pack_rules.specs.Write.{Item}
use Rattle.pack.specs.Intern.{render}
use Rattle.activations.specs.declared.expr_node.ExprNode.{ExprNode}
use Rattle.activation_rules.specs.LastCalls.{last_name}
use Rattle.activations.specs.ExprNodes.{expr_node_at, onward_t, open_t}

module _ (ns : List Name) (s : List ℕ) (last : ℕ) where
  -- n expressions from p on; the fuel bounds the number of nodes
  unfoldable pub walk_t : {S : Type 0} → (ExprNode → ℕ → S → S) → ℕ → ℕ → ℕ → S → S
  walk_t step zero zero p z = z
  walk_t step zero (suc n) p z = z
  walk_t step (suc f) zero p z = z
  walk_t step (suc f) (suc n) p z =
      walk_t step f (open_t (expr_node_at ns s last p) (suc n)) (onward_t (expr_node_at ns s last p)) (step (expr_node_at ns s last p) p z)

  -- the same with fuel for as many nodes as the pack has bytes, and one more
  unfoldable pub walked : {S : Type 0} → (ExprNode → ℕ → S → S) → ℕ → ℕ → S → S
  walked step n p z = walk_t step (suc (length s)) n p z

-- a step that looks for a node
unfoldable pub or_step : (ExprNode → Bool) → ExprNode → ℕ → Bool → Bool
or_step f m p z = z || f m

-- a step that writes items
unfoldable pub write_step : List ℕ → (ExprNode → ℕ → List Item) → ExprNode → ℕ → State → State
write_step old items m p z = render old (items m p) z

-- what falls while a pass goes on
unfoldable pub left_t : List ℕ → ℕ → ℕ → ℕ
left_t s n p = cond (eqb n 0) 0 (suc (length s - p))

-- expressions in order
unfoldable pub through : {S : Type 0} → (Expr → S → S) → List Expr → S → S
through T [] z = z
through T (e ∷ es) z = through T es (T e z)

-- an index is that of `last` where its name is
unfoldable pub LastIs : List Name → ℕ → Type 0
LastIs ns last = (i : ℕ) → i < length ns → eqb i last ≡ eq_name (name_at ns i) last_name

-- where the initial value of a call of `last` stands, up to the call's end: 0 where there is none
unfoldable pub InitAt : List Name → List ℕ → Option Expr → ℕ → ℕ → Type 0
InitAt ns s none init next = init ≡ 0
InitAt ns s (some e) init next = (0 < init) × (expr_in ns s init ≡ value e next)
