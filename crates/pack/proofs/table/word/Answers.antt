use Rattle.std.proofs.Common.{◌+◌, arith}
use Rattle.pack.specs.Table.{word}
use Rattle.pack.proofs.table.word.Goals as goal

pub overflow_cast-result : goal.overflow_cast-result
overflow_cast-result c = omega (arith, c.shared_slice_known-1.given c.args.i)

pub overflow_cast-result-then-i-t : goal.overflow_cast-result-then-i-t
overflow_cast-result-then-i-t c = omega (arith, c.shared_slice_known-1.given (c.args.i + 1))

pub overflow_mul-result : goal.overflow_mul-result
overflow_mul-result c = omega (arith, c.shared_slice_known-1.given (c.args.i + 1))

pub overflow_add-result-then-i-t : goal.overflow_add-result-then-i-t
overflow_add-result-then-i-t c = omega (arith, c.shared_slice_known-1.given c.args.i, c.shared_slice_known-1.given (c.args.i + 1))

pub returns-then-i-t : goal.returns-then-i-t
unfolding word
returns-then-i-t c = (omega arith, omega (arith, c.shared_slice_known-1.given c.args.i, c.shared_slice_known-1.given (c.args.i + 1)))

pub returns : goal.returns
unfolding word
returns c = (omega (arith, c.byte_at.ensures.0, c.byte_at-2.ensures.0), omega (arith, c.byte_at.ensures.1, c.byte_at-2.ensures.1))
