use Rattle.std.proofs.Common.{◌+◌, refl, arith}
use Rattle.pack.specs.Siphash.{quad_at}
use Rattle.pack.proofs.SiphashLaws.{quad-end}
use Rattle.pack.proofs.siphash.read_u32_padded.Goals as goal

pub overflow_add-i : goal.overflow_add-i
overflow_add-i c = omega (arith, c.well_formed.0.1)

pub overflow_cast-result : goal.overflow_cast-result
overflow_cast-result c = omega (arith, c.type_inv.n c.args.i)

pub overflow_cast-result-then-i-n : goal.overflow_cast-result-then-i-n
overflow_cast-result-then-i-n c = omega (arith, c.shared_slice_known-then-i-n-1.given c.args.i, c.type_inv.n (c.args.i + 1))

pub overflow_mul-result : goal.overflow_mul-result
overflow_mul-result c = omega (arith, c.shared_slice_known-then-i-n-1.given c.args.i, c.type_inv.n (c.args.i + 1))

pub overflow_add-result-then-i-n : goal.overflow_add-result-then-i-n
overflow_add-result-then-i-n c = omega (arith, c.shared_slice_known-then-i-n-1.given c.args.i, c.type_inv.n (c.args.i + 1))

pub overflow_cast-result-then-i-n-2 : goal.overflow_cast-result-then-i-n-2
overflow_cast-result-then-i-n-2 c = omega (arith, c.shared_slice_known-then-i-n-1.given c.args.i, c.shared_slice_known-then-i-n-2-1.given (c.args.i + 1), c.type_inv.n (c.args.i + 2))

pub overflow_mul-result-then-i-n : goal.overflow_mul-result-then-i-n
overflow_mul-result-then-i-n c = omega (arith, c.shared_slice_known-then-i-n-1.given c.args.i, c.shared_slice_known-then-i-n-2-1.given (c.args.i + 1), c.type_inv.n (c.args.i + 2))

pub overflow_add-result-then-i-n-3 : goal.overflow_add-result-then-i-n-3
overflow_add-result-then-i-n-3 c = omega (arith, c.shared_slice_known-then-i-n-1.given c.args.i, c.shared_slice_known-then-i-n-2-1.given (c.args.i + 1), c.type_inv.n (c.args.i + 2))

pub overflow_cast-result-then-i-n-3 : goal.overflow_cast-result-then-i-n-3
overflow_cast-result-then-i-n-3 c = omega (arith, c.shared_slice_known-then-i-n-1.given c.args.i, c.shared_slice_known-then-i-n-2-1.given (c.args.i + 1), c.shared_slice_known-then-i-n-3-1.given (c.args.i + 2), c.type_inv.n (c.args.i + 3))

pub overflow_mul-result-then-i-n-2 : goal.overflow_mul-result-then-i-n-2
overflow_mul-result-then-i-n-2 c = omega (arith, c.shared_slice_known-then-i-n-1.given c.args.i, c.shared_slice_known-then-i-n-2-1.given (c.args.i + 1), c.shared_slice_known-then-i-n-3-1.given (c.args.i + 2), c.type_inv.n (c.args.i + 3))

pub overflow_add-result-then-i-n-5 : goal.overflow_add-result-then-i-n-5
overflow_add-result-then-i-n-5 c = omega (arith, c.shared_slice_known-then-i-n-1.given c.args.i, c.shared_slice_known-then-i-n-2-1.given (c.args.i + 1), c.shared_slice_known-then-i-n-3-1.given (c.args.i + 2), c.type_inv.n (c.args.i + 3))

pub returns-then-i-n : goal.returns-then-i-n
unfolding quad_at
returns-then-i-n c = (refl, omega (arith, c.shared_slice_known-then-i-n-1.given c.args.i, c.shared_slice_known-then-i-n-2-1.given (c.args.i + 1), c.shared_slice_known-then-i-n-3-1.given (c.args.i + 2), c.type_inv.n (c.args.i + 3)))

pub returns : goal.returns
returns c = (quad-end c.args.n.now _ _ _ _ c.if-i-n.false c.byte_at.ensures.0 c.byte_at-2.ensures.0 c.byte_at-3.ensures.0, omega (arith, c.byte_at.ensures.1, c.byte_at-2.ensures.1, c.byte_at-3.ensures.1))
