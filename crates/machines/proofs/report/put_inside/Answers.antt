use native.Mathlib.Omega.{arith}
use Rattle.machines.proofs.EntryLaws.{inside-length, inside-put}
use Rattle.machines.proofs.report.put_inside.Goals as goal

pub overflow_add-k : goal.overflow_add-k
overflow_add-k c = let a = c.args in
    omega (arith, inside-length a.p.now a.n.now, c.prefix_len.ensures)

pub put_low-a-requires : goal.put_low-a-requires
put_low-a-requires c = let a = c.args in
    omega (arith, inside-length a.p.now a.n.now)

pub put_prefix-b-requires : goal.put_prefix-b-requires
put_prefix-b-requires c = let a = c.args in
    omega (arith, inside-length a.p.now a.n.now, c.put_low-a.ensures.value)

pub append-requires : goal.append-requires
append-requires c = let a = c.args in
    omega (arith, inside-length a.p.now a.n.now, c.put_low-a.ensures.value, c.put_prefix-b.ensures.value)

pub returns : goal.returns
returns c = let a = c.args in
    let x = c.put_low-a.ensures in
    let y = c.put_prefix-b.ensures in
    let e = inside-length a.p.now a.n.now in record { value = omega (arith, e, x.value, y.value, c.append.ensures.value); report_after = inside-put _ _ _ _ _ _ _ _ _ _ (omega (arith, e)) c.prefix_len.ensures x.value x.report_after y.value y.report_after c.append.ensures.dst_after }
