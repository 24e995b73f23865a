use native.Mathlib.Omega.{arith}
use Rattle.machines.proofs.TableLaws.{name-next, name-stays}
use Rattle.machines.proofs.table.next_name.Goals as goal

pub overflow_cast-result : goal.overflow_cast-result
overflow_cast-result c = omega (arith, c.type_inv.pack c.args.at)

pub overflow_add-result-then-at-pack : goal.overflow_add-result-then-at-pack
overflow_add-result-then-at-pack c = omega (arith, c.type_inv.pack c.args.at)

pub returns-then-at-pack : goal.returns-then-at-pack
returns-then-at-pack c = name-next _ _ c.if-at-pack.true

pub returns-else-at-pack : goal.returns-else-at-pack
returns-else-at-pack c = name-stays _ _ c.if-at-pack.false
