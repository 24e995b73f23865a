use Rattle.machines.proofs.CheckedReadLaws.{end_is}
use Rattle.pack_rules.specs.Read.{expr_in}
use Rattle.machines.proofs.checked_read.after_expr.Goals as goal

pub returns : goal.returns
returns c = λ ns e. end_is (expr_in ns _) _ _ _ (c.skip_expr.ensures.by_names ns e) c.reached.ensures
