use Rattle.std.proofs.Common.{sym, arith}
use lib.ListN.{get_or-eq_default}
use Rattle.pack.proofs.cells.cell.Goals as goal

pub overflow_cast-result : goal.overflow_cast-result
overflow_cast-result c = omega (arith, c.type_inv.t c.args.i)

pub returns-else-i-t : goal.returns-else-i-t
returns-else-i-t c = sym (get_or-eq_default c.args.t.now 0 c.if-i-t.false)
