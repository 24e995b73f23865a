use Rattle.std.proofs.Common.{arith, length-take}
use Rattle.pack.proofs.DistinctLaws.{key-long, key-short}
use Rattle.pack.proofs.distinct.key_for.Goals as goal

pub slice_bounds-letters-end : goal.slice_bounds-letters-end
slice_bounds-letters-end c = simp length-take (omega arith)

pub returns-then-n-gt8 : goal.returns-then-n-gt8
returns-then-n-gt8 c = key-long _ _ _ _ c.if-n-gt8.true c.letters.ensures c.product.ensures

pub returns : goal.returns
returns c = key-short _ _ c.if-n-gt8.false
