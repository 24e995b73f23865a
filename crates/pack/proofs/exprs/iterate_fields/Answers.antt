use Rattle.std.proofs.Common.{arith}
use Rattle.wire.proofs.Codes.{below-small, u16-small}
use Rattle.pack.proofs.exprs.iterate_fields.Goals as goal

pub overflow_add-result : goal.overflow_add-result
overflow_add-result c = omega (arith, below-small _ _ _ _ c.in_ok-initial.ensures, u16-small _ _ _ (λ i. (c.type_inv.pack i).fits) c.in_ok-arrays.ensures)
