use Rattle.std.proofs.Common.{◌∙◌}
use Rattle.std.proofs.lemmas.Result.{err_from_is_err_and}
use Rattle.wire.proofs.Codes.{handed-back, skip-read_err, skip-read_ok}
use Rattle.pack.specs.Heads.{expr_left}
use Rattle.pack.proofs.ExprLaws.{expr-skips}
use Rattle.pack.proofs.exprs.skip_expr.Goals as goal

pub returns-in_err-expr_nodes : goal.returns-in_err-expr_nodes
unfolding expr_left
returns-in_err-expr_nodes c =
    let s = expr-skips _ _ _ _ (handed-back _ _ (err_from_is_err_and c.from_residual.result c.from_residual.ensures.1) ∙ skip-read_err _ _ c.in_err-expr_nodes.ensures) in
    record { by_number = s.by_number; by_names = s.by_names }

pub returns : goal.returns
unfolding expr_left
returns c =
    let s = expr-skips _ _ _ _ (skip-read_ok _ _ c.in_ok-expr_nodes.ensures) in
    record { by_number = s.by_number; by_names = s.by_names }
