use Rattle.std.proofs.Common.{◌-◌, length}
use Rattle.pack.proofs.ExprLaws.{Going}
use Rattle.pack.proofs.exprs.expr_nodes.Given as goal

abbrev pub invariant-loop-n : goal.invariant-loop-n
invariant-loop-n l = Going l.one l.names l.pack l.at l.n l.p

abbrev pub decreases-loop-n : goal.decreases-loop-n
decreases-loop-n l = length l.pack - l.p
