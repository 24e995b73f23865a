use native.Mathlib.Omega.{arith}
use Rattle.machines.proofs.AddedLaws.{owned-not, owned-yes}
use Rattle.machines.proofs.added.owned.Goals as goal

pub returns-then-o-eq-ABSENT : goal.returns-then-o-eq-ABSENT
returns-then-o-eq-ABSENT c = (omega arith, owned-not _ _ _ _ _ _ c.entry-a.ensures c.number-m.ensures c.number-o.ensures c.if-o-eq-ABSENT.true)

pub returns-else-o-eq-ABSENT : goal.returns-else-o-eq-ABSENT
returns-else-o-eq-ABSENT c = (omega arith, owned-yes _ _ _ _ _ _ c.entry-a.ensures c.number-m.ensures c.number-o.ensures c.if-o-eq-ABSENT.false)
