use Rattle.std.proofs.Common.{ℕ, arith, ap, ◌∙◌}
use Rattle.std.proofs.lemmas.Result.{err_from_is_err_and}
use Rattle.wire.proofs.Codes.{handed-back}
use Rattle.pack.specs.Nodes.{named_of}
use Rattle.pack.proofs.ExprLaws.{expr_moves}
use Rattle.pack.proofs.NodeLaws.{node-err, node-found, node-ok}
use Rattle.pack.proofs.exprs.read_node.Goals as goal

pub returns-in_err-head : goal.returns-in_err-head
returns-in_err-head c = handed-back _ _ (err_from_is_err_and c.from_residual.result c.from_residual.ensures.1) ∙ node-err _ _ _ _ c.in_err-head.ensures

pub bounds-pack-at : goal.bounds-pack-at
bounds-pack-at c = let g = node-found _ _ _ _ c.in_ok-head.ensures in omega (arith, (expr_moves _).on _ _ _ _ g, (expr_moves _).inside _ _ _ _ g)

pub overflow_add-at : goal.overflow_add-at
overflow_add-at c = let g = node-found _ _ _ _ c.in_ok-head.ensures in omega (arith, (expr_moves _).on _ _ _ _ g, (expr_moves _).inside _ _ _ _ g, c.requires)

pub returns : goal.returns
returns c = node-ok _ _ _ _ _ _ c.in_ok-head.ensures c.read_u16.ensures (c.named.ensures ∙ ap (λ (t : ℕ). named_of t c.in_ok-head.head.value c.read_u16.result) c.from-tag.ensures)
