use native.Mathlib.Omega.{arith}
use Rattle.activations.proofs.ReadLaws.{push-full, push-room, push-there}
use Rattle.activations.proofs.free_vars.push.Goals as goal

pub returns-then-is_in : goal.returns-then-is_in
returns-then-is_in c = (c.requires.n_bound, push-there c.args.t.now c.args.n c.args.x _ c.is_in.ensures c.if-is_in.true)

pub returns-then-n-lt21848 : goal.returns-then-n-lt21848
returns-then-n-lt21848 c = (omega (arith, c.if-n-lt21848.true), push-room c.args.t.now _ _ _ _ c.requires.in_bounds c.is_in.ensures c.if-is_in.false c.if-n-lt21848.true c.put_cell.ensures)

pub returns : goal.returns
returns c = (c.requires.n_bound, push-full c.args.t.now _ _ _ c.requires.in_bounds c.requires.n_bound c.is_in.ensures c.if-is_in.false c.if-n-lt21848.false)
