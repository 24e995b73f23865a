use native.Mathlib.Omega.{arith}
use Rattle.machines.proofs.OwnerLaws.{refused-here, refused-not}
use Rattle.machines.proofs.owners.refused.Goals as goal

pub returns-then-e-eq-ABSENT : goal.returns-then-e-eq-ABSENT
returns-then-e-eq-ABSENT c = (omega arith, refused-here _ _ _ c.entry-e.ensures c.if-e-eq-ABSENT.true)

pub returns-else-e-eq-ABSENT : goal.returns-else-e-eq-ABSENT
returns-else-e-eq-ABSENT c = (omega arith, refused-not _ _ _ c.entry-e.ensures c.if-e-eq-ABSENT.false)
