use Rattle.std.proofs.Common.{refl, arith}
use Rattle.pack.specs.Distinct.{product}
use Rattle.pack.proofs.DistinctLaws.{product-fits}
use Rattle.pack.proofs.distinct.product.Goals as goal

pub overflow_mul-result : goal.overflow_mul-result
overflow_mul-result c = record { fits = product-fits _ _ (omega arith) (omega arith) }

pub returns : goal.returns
unfolding product
returns c = refl
