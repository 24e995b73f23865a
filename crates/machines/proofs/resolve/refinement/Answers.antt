use Rattle.machines.proofs.ResolveLaws.{enter-cycle, enter-unknown, enter-on}
use Rattle.machines.proofs.resolve.refinement.Goals as goal

pub returns-then-contains : goal.returns-then-contains
returns-then-contains c = enter-cycle _ _ _ _ _ _ _ c.contains.ensures c.if-contains.true

pub returns-then-w-eq0 : goal.returns-then-w-eq0
returns-then-w-eq0 c = enter-unknown _ _ _ _ _ _ _ _ c.contains.ensures c.if-contains.false c.cell-w.ensures c.if-w-eq0.true

pub returns : goal.returns
returns c = enter-on _ _ _ _ _ _ _ _ _ _ c.contains.ensures c.if-contains.false c.cell-w.ensures c.if-w-eq0.false c.machine-k.ensures c.len_at.ensures
