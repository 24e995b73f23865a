use Rattle.std.proofs.Common.{rules, sym, ◌∙◌}
use Rattle.std.proofs.lemmas.Result.{err_from_is_err_and}
use Rattle.wire.specs.Code.{skips}
use Rattle.wire.proofs.Codes.{handed-back, rep-done, rep-err, rep-ok, rep-start, skip-many}
use Rattle.pack.proofs.names.skip_chars.Goals as goal

pub loop-init : goal.loop-init
loop-init c = rep-start _ _ _

pub returns-in_err-p : goal.returns-in_err-p
unfolding skips
returns-in_err-p c =
    handed-back _ _ (err_from_is_err_and c.from_residual.result c.from_residual.ensures.1)
    ∙ rep-err _ _ _ _ _ _ (search rules) c.in_err-p.ensures c.loop.invariant ∙ sym (skip-many _ _ _)

pub loop-preserved : goal.loop-preserved
unfolding skips
loop-preserved c = rep-ok _ _ _ _ _ _ (search rules) c.in_ok-p.ensures c.loop.invariant

pub returns : goal.returns
unfolding skips
returns c = rep-done _ _ _ _ _ (search rules) c.loop.invariant ∙ sym (skip-many _ _ _)
