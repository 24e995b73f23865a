use native.Mathlib.Omega.{arith}
use Rattle.machines.proofs.call.+write_out_of_line.Goals as goal

pub slice_bounds-write_out_of_line-end : goal.slice_bounds-write_out_of_line-end
slice_bounds-write_out_of_line-end t c = absurd (omega arith)

pub write_out_of_line-r-requires : goal.write_out_of_line-r-requires
write_out_of_line-r-requires t c = absurd (omega arith)

pub shape_of-layout-then-pack-gt-BYTES : goal.shape_of-layout-then-pack-gt-BYTES
shape_of-layout-then-pack-gt-BYTES t c = absurd (omega arith)

pub shape_of-rows-then-pack-gt-BYTES : goal.shape_of-rows-then-pack-gt-BYTES
shape_of-rows-then-pack-gt-BYTES t c = absurd (omega arith)

pub shape_of-qualified-then-pack-gt-BYTES : goal.shape_of-qualified-then-pack-gt-BYTES
shape_of-qualified-then-pack-gt-BYTES t c = absurd (omega arith)

pub shape_of-output-then-pack-gt-BYTES : goal.shape_of-output-then-pack-gt-BYTES
shape_of-output-then-pack-gt-BYTES t c = absurd (omega arith)

pub returns-then-pack-gt-BYTES : goal.returns-then-pack-gt-BYTES
returns-then-pack-gt-BYTES t c = absurd (omega arith)
