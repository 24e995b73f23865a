use Rattle.pack.proofs.ExprLaws.{struct-ok}
use Rattle.pack.proofs.exprs.struct_fields.Goals as goal

pub returns : goal.returns
returns c = struct-ok _ _ _ _ _ _ c.in_ok-name.ensures c.in_ok-count.ensures c.in_ok-next.ensures
