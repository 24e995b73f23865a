use native.Mathlib.Omega.{arith}
use Rattle.wire.proofs.Answers.{fwd-u32}
use Rattle.wire.proofs.Codes.{read_found}
use Rattle.replay.proofs.replay_one.Goals as goal

pub returns-then-agrees : goal.returns-then-agrees
returns-then-agrees c = let f = fwd-u32 _ _ _ _ (read_found _ _ c.in-Ok.ensures) in let g = f.on in record { on = omega (arith, c.requires.more); inside = omega arith; counted = omega (arith, c.requires.counted); fewer = omega (arith, c.requires.fewer) }

pub returns-else-agrees : goal.returns-else-agrees
returns-else-agrees c = let f = fwd-u32 _ _ _ _ (read_found _ _ c.in-Ok.ensures) in let g = f.on in record { on = omega (arith, c.requires.more); inside = omega arith; counted = omega (arith, c.requires.counted); fewer = omega (arith, c.requires.fewer) }
