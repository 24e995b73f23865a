use Rattle.std.proofs.Common.{◌≡◌, ◌+◌, ◌-◌, arith}
use Rattle.pack.proofs.NameLaws.{inside-step, one_of-done, one_of-found, one_of-went}
use Rattle.pack.proofs.names.seen.Goals as goal

pub same_name-requires : goal.same_name-requires
same_name-requires c = (c.requires.0, (inside-step _ _ _ (omega (arith, c.loop-test.true)) c.loop.invariant.inside).0)

pub returns-then-same_name : goal.returns-then-same_name
returns-then-same_name c = one_of-found _ _ _ _ _ _ (omega (arith, c.loop-test.true)) c.if-same_name.true c.same_name.ensures c.loop.invariant.same

pub bounds-pack-p : goal.bounds-pack-p
bounds-pack-p c = omega (arith, (inside-step _ _ _ (omega (arith, c.loop-test.true)) c.loop.invariant.inside).0)

pub overflow_add-p : goal.overflow_add-p
overflow_add-p c = omega (arith, (inside-step _ _ _ (omega (arith, c.loop-test.true)) c.loop.invariant.inside).0)

pub overflow_add-p-in-loop : goal.overflow_add-p-in-loop
overflow_add-p-in-loop c = omega (arith, c.from.ensures, (inside-step _ _ _ (omega (arith, c.loop-test.true)) c.loop.invariant.inside).0)

pub returns : goal.returns
returns c = one_of-done _ _ _ _ _ (omega (arith, c.loop-test.false)) c.loop.invariant.same

pub loop-preserved : goal.loop-preserved
loop-preserved c =
    let n : c.args.count - (c.loop.counter + 1) ≡ c.args.count - c.loop.counter - 1 = omega arith in
    rw (n, c.from.ensures)
    record {
      same = one_of-went _ _ _ _ _ _ (omega (arith, c.loop-test.true)) c.if-same_name.false c.same_name.ensures c.loop.invariant.same;
      inside = (inside-step _ _ _ (omega (arith, c.loop-test.true)) c.loop.invariant.inside).1;
    }
