use native.Mathlib.Omega.{arith}
use Rattle.wire.proofs.Codes.{read_found}
use Rattle.charts.proofs.Lengths.{read-on}
use Rattle.charts.proofs.part_at.Goals as goal

pub overflow_sub-end : goal.overflow_sub-end
overflow_sub-end c = let f = read-on c.args.s.now c.args.at _ _ (read_found _ _ c.in-Ok.ensures) in
    omega (arith, f.1)

pub returns-in-Ok : goal.returns-in-Ok
returns-in-Ok c = let f = read-on c.args.s.now c.args.at _ _ (read_found _ _ c.in-Ok.ensures) in
    record { inside = omega (arith, f.1, c.if-len-end.true); stays = λ l. omega (arith, f.0); on = λ l. omega (arith, f.0) }
