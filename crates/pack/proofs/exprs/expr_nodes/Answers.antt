use Rattle.std.proofs.Common.{arith, ◌∙◌}
use Rattle.std.proofs.lemmas.Result.{err_from_is_err_and}
use Rattle.wire.proofs.Codes.{handed-back, read_found}
use Rattle.pack.proofs.ExprLaws.{expr_moves, expr-small, nodes-begin, nodes-done, nodes-err, nodes-first, nodes-went}
use Rattle.pack.proofs.exprs.expr_nodes.Goals as goal

pub loop-n-init : goal.loop-n-init
loop-n-init c = nodes-begin _ _ _ _

pub returns-in_err-head : goal.returns-in_err-head
returns-in_err-head c = handed-back _ _ (err_from_is_err_and c.from_residual.result c.from_residual.ensures.1) ∙ nodes-err _ _ _ _ _ _ _ c.loop-n-test.true c.loop-n.invariant c.in_err-head.ensures

pub returns-then-one : goal.returns-then-one
returns-then-one c = nodes-first _ _ _ _ _ _ _ c.if-one.true c.loop-n.invariant c.in_ok-head.ensures

pub overflow_add-n : goal.overflow_add-n
overflow_add-n c = let g = read_found _ _ c.in_ok-head.ensures in
    omega (arith, expr-small _ _ (λ i. (c.type_inv.pack i).fits) _ _ _ g, (expr_moves _).on _ _ _ _ g, (expr_moves _).inside _ _ _ _ g, c.requires, c.loop-n.invariant.few)

pub loop-n-smaller : goal.loop-n-smaller
loop-n-smaller c = let g = read_found _ _ c.in_ok-head.ensures in omega (arith, (expr_moves _).on _ _ _ _ g, (expr_moves _).inside _ _ _ _ g)

pub loop-n-preserved : goal.loop-n-preserved
loop-n-preserved c = nodes-went _ _ _ _ _ _ _ (λ i. (c.type_inv.pack i).fits) c.if-one.false c.loop-n-test.true c.loop-n.invariant c.in_ok-head.ensures

pub returns : goal.returns
returns c = nodes-done _ _ _ _ _ _ c.loop-n-test.false c.loop-n.invariant
