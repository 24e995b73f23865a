-- Internal: nothing here has to be believed; laws tie it to what docs/TRUSTED.md lists.
-- A node of an expression as the code takes it apart, and the code's steps on it as functions.
use Rattle.std.specs.Prelude.{ℕ, cond, length, ◌==◌, Result, Ok, Err}
use Rattle.wire.specs.Answer.{Answer, value, early, illegal, deep}
use Rattle.wire.specs.declared.answer.Stop.{Stop}
use Rattle.wire.specs.declared.answer.Stop.TheVariants.{Early, Illegal, Deep}
use Rattle.wire.specs.Code.{Read}
use Rattle.pack.specs.declared.exprs.Node.{Node}
use Rattle.pack.specs.declared.exprs.Node.TheVariants as nd
use Rattle.pack.specs.declared.exprs.Decoded.{Decoded}
use Rattle.pack_rules.specs.Forms.{ExprHead, const, var, unary, binary, conditional, previous, arrow, call, field, element, tuple, array, struct, cast, sample, merge, iterate, expr_arity}

-- a variable's name, a clock's, a called node's; of the others only how many expressions stand under them
unfoldable pub node_of : ExprHead → Node
node_of (const l) = nd.Other 0
node_of (var i) = nd.Var i
node_of (unary o) = nd.Other 1
node_of (binary o) = nd.Other 2
node_of conditional = nd.Other 3
node_of previous = nd.Other 1
node_of arrow = nd.Other 2
node_of (call i n) = nd.Call i n
node_of (field i) = nd.Other 1
node_of element = nd.Other 2
node_of (tuple n) = nd.Other n
node_of (array n) = nd.Other n
node_of (struct i fs) = nd.Other (length fs)
node_of (cast t) = nd.Other 1
node_of (sample i b) = nd.Clocked i 1
node_of (merge i) = nd.Clocked i 2
node_of (iterate k i b n) = nd.Other (expr_arity (iterate k i b n))

-- the node of a head that was read
unfoldable pub decoded : Answer ExprHead → Result Decoded Stop
decoded (value h q) = Ok (record { node = node_of h; next = q })
decoded early = Err Early
decoded (illegal o) = Err (Illegal o)
decoded (deep o) = Err (Deep o)

-- the code's steps: a node of this tag, with n expressions under it and the name i
unfoldable pub by_tag : ℕ → ℕ → ℕ → Node
by_tag tag n i =
    cond (tag == 1) (nd.Var i)
    (cond (tag == 7) (nd.Call i n)
    (cond (tag == 14) (nd.Clocked i n)
    (cond (tag == 15) (nd.Clocked i n)
    (nd.Other n))))

-- the same by the number that was read as the first of its fields; where there is none it has no name
unfoldable pub named_of : ℕ → ℕ → Read → Node
named_of tag n (Ok i) = by_tag tag n i.value
named_of tag n (Err e) = nd.Other n
