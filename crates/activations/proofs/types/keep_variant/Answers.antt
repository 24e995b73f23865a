use native.Mathlib.Omega.{arith}
use Rattle.machines.proofs.CheckedReadLaws.{number_small}
use Rattle.activations.proofs.FirstVariantLaws.{kept-none, kept-some}
use Rattle.activations.proofs.types.keep_variant.Goals as goal

pub returns-else-k-ne0 : goal.returns-else-k-ne0
returns-else-k-ne0 c = kept-none _ _ _ _ _ c.if-k-ne0.false

pub overflow_add-v : goal.overflow_add-v
overflow_add-v c = omega (arith, number_small _ _ _ (λ i. omega (arith, c.type_inv.pack i)) c.number-v.ensures)

pub returns-then-k-ne0 : goal.returns-then-k-ne0
returns-then-k-ne0 c = kept-some _ _ _ _ _ _ _ c.if-k-ne0.true c.number-v.ensures c.put_word.ensures
