use native.Mathlib.Omega.{arith}
use Rattle.activations.proofs.call.+lower_out_of_line.Goals as goal

pub returns-then-pack-gt-BYTES : goal.returns-then-pack-gt-BYTES
returns-then-pack-gt-BYTES t c = absurd (omega arith)
