-- Internal: nothing here has to be believed; laws tie it to what docs/TRUSTED.md lists.
-- A node of an expression as the code meets it, and its steps there as functions.
use Rattle.std.specs.Prelude.{ℕ, ◌+◌, ◌-◌, List, Bool, true, false, cond, length, get_or, eqb, ltb}
use Rattle.pack_rules.specs.Names.{Name}
use Rattle.pack.specs.declared.exprs.Node.{Node}
use Rattle.pack.specs.declared.exprs.Node.TheVariants as nd
use Rattle.pack.specs.declared.exprs.Decoded.{Decoded}
use Rattle.std.specs.Prelude.{Result, Ok, Err}
use Rattle.wire.specs.declared.answer.Stop.{Stop}
use Rattle.pack_rules.specs.Forms.{expr_head}
use Rattle.pack.specs.Nodes.{decoded}
use Rattle.pack_rules.specs.Read.{expr_in}
use Rattle.pack_rules.specs.Limits.{max_bytes}
use Rattle.machines.specs.ResolvedIn.{end_of}
use Rattle.activations.specs.declared.expr_node.ExprNode.{ExprNode}
use Rattle.activations.specs.declared.expr_node.ExprNode.TheVariants as mt

-- from a node that was read on
unfoldable pub on_node : Result Decoded Stop → (Node → ℕ → ExprNode) → ExprNode
on_node (Ok d) k = k d.node d.next
on_node (Err e) k = mt.Nothing

-- from a variable on, where the node is one; m where it is another
unfoldable pub on_var : Node → ExprNode → (ℕ → ExprNode) → ExprNode
on_var (nd.Var i) m k = k i
on_var (nd.Clocked c u) m k = m
on_var (nd.Call f u) m k = m
on_var (nd.Other u) m k = m

-- a call of `last` with an initial value from `at` up to e
unfoldable pub last_two_t : ℕ → ℕ → ℕ → ExprNode
last_two_t var at e = cond (ltb at e) (mt.Last var at e) mt.Nothing

-- a node of which only the number of expressions under it was read; a constant by its tag
unfoldable pub plain_t : List ℕ → ℕ → ℕ → ℕ → ExprNode
plain_t s at under next = cond (eqb (get_or s at 0) 0) (mt.Const next) (mt.Other under next)

module _ (ns : List Name) (s : List ℕ) where
  -- a call of `last` with so many arguments from `first` on, the first of them a variable; the next stands at `at`
  unfoldable pub last_rest_t : ℕ → ℕ → ℕ → ℕ → ExprNode
  last_rest_t var under first at =
      cond (eqb under 1) (mt.Last var 0 at)
      (cond (eqb under 2) (last_two_t var at (end_of (expr_in ns s at)))
      (mt.Bad under first))

  -- the first of so many arguments, which stand at `at`, is the node n
  unfoldable pub first_t : ℕ → ℕ → Node → ℕ → ExprNode
  first_t under at n q = on_var n (mt.Bad under at) (λ i. last_rest_t i under at q)

  -- a call of `last` with so many arguments, which stand at `at`
  unfoldable pub last_shape_t : ℕ → ℕ → ExprNode
  last_shape_t under at =
      cond (eqb under 0) (mt.Bad under at)
      (on_node (decoded (expr_head (length ns) s at)) (first_t under at))

  module _ (last : ℕ) where
    -- a call of f with so many arguments, which stand at `at`
    unfoldable pub call_t : ℕ → ℕ → ℕ → ExprNode
    call_t f under at = cond (eqb f last) (last_shape_t under at) (mt.Other under at)

    -- a node that stands at `at`
    unfoldable pub expr_node : ℕ → Node → ℕ → ExprNode
    expr_node at (nd.Var i) q = mt.Var i q
    expr_node at (nd.Clocked c u) q = mt.Clocked c u q
    expr_node at (nd.Call f u) q = call_t f u q
    expr_node at (nd.Other u) q = plain_t s at u q

    -- what is met at an offset
    unfoldable pub expr_node_at : ℕ → ExprNode
    expr_node_at at = on_node (decoded (expr_head (length ns) s at)) (expr_node at)

-- one expression less and `under` more; no pack has more to come than bytes
unfoldable pub grown_t : ℕ → ℕ → ℕ
grown_t n under = cond (ltb max_bytes n) 0 (cond (ltb max_bytes under) 0 (n - 1 + under))

-- how many expressions are to come after a node, where n were with it
unfoldable pub open_t : ExprNode → ℕ → ℕ
open_t (mt.Last v i q) n = n - 1
open_t (mt.Bad u q) n = grown_t n u
open_t (mt.Const q) n = n - 1
open_t (mt.Var i q) n = n - 1
open_t (mt.Clocked c u q) n = grown_t n u
open_t (mt.Other u q) n = grown_t n u
open_t mt.Nothing n = 0

-- where the next node stands
unfoldable pub onward_t : ExprNode → ℕ
onward_t (mt.Last v i q) = q
onward_t (mt.Bad u q) = q
onward_t (mt.Const q) = q
onward_t (mt.Var i q) = q
onward_t (mt.Clocked c u q) = q
onward_t (mt.Other u q) = q
onward_t mt.Nothing = 0

-- a call of `last` with arguments that it does not take
unfoldable pub is_bad : ExprNode → Bool
is_bad (mt.Last v i q) = false
is_bad (mt.Bad u q) = true
is_bad (mt.Const q) = false
is_bad (mt.Var i q) = false
is_bad (mt.Clocked c u q) = false
is_bad (mt.Other u q) = false
is_bad mt.Nothing = false

-- a constant
unfoldable pub is_const : ExprNode → Bool
is_const (mt.Last v i q) = false
is_const (mt.Bad u q) = false
is_const (mt.Const q) = true
is_const (mt.Var i q) = false
is_const (mt.Clocked c u q) = false
is_const (mt.Other u q) = false
is_const mt.Nothing = false
