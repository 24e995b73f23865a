use native.Mathlib.Omega.{arith}
use Rattle.machines.proofs.CheckedReadLaws.{number_small}
use Rattle.activations.proofs.AddedCounts.{count-is}
use Rattle.activations.proofs.added.equation_count.Goals as goal

pub overflow_add-result : goal.overflow_add-result
overflow_add-result c = omega (arith, c.act_locals-l.ensures.0, number_small _ _ _ (λ i. omega (arith, c.type_inv.pack i)) c.number-c.ensures)

pub returns : goal.returns
returns c = (omega (arith, c.act_locals-l.ensures.0, number_small _ _ _ (λ i. omega (arith, c.type_inv.pack i)) c.number-c.ensures), count-is _ _ _ _ _ _ _ _ c.act_spot-at.ensures c.number-a.ensures c.number-o.ensures c.number-c.ensures c.act_locals-l.ensures.1)
