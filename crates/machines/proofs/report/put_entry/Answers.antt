use native.Mathlib.Omega.{arith}
use Rattle.machines.proofs.EntryLaws.{entry_length, entry-put, name-length}
use Rattle.machines.proofs.report.put_entry.Goals as goal

pub put_low-a-requires : goal.put_low-a-requires
put_low-a-requires c = let a = c.args in
    omega (arith, entry_length _ _ a.qualified.now a.m a.j _ c.pack_name-n.ensures)

pub put_name-b-requires : goal.put_name-b-requires
put_name-b-requires c = let a = c.args in
    let n = c.pack_name-n in
    omega (arith, entry_length _ _ a.qualified.now a.m a.j _ n.ensures, name-length n.result.now, c.put_low-a.ensures.value)

pub put_called-c-requires : goal.put_called-c-requires
put_called-c-requires c = let a = c.args in
    let n = c.pack_name-n in
    omega (arith, entry_length _ _ a.qualified.now a.m a.j _ n.ensures, name-length n.result.now, c.put_low-a.ensures.value, c.put_name-b.ensures.value)

pub put_called-requires : goal.put_called-requires
put_called-requires c = let a = c.args in
    let n = c.pack_name-n in
    omega (arith, entry_length _ _ a.qualified.now a.m a.j _ n.ensures, name-length n.result.now, c.put_low-a.ensures.value, c.put_name-b.ensures.value, c.put_called-c.ensures.value)

pub returns : goal.returns
returns c = let a = c.args in
    let n = c.pack_name-n in
    let x = c.put_low-a in
    let y = c.put_name-b in
    let z = c.put_called-c in
    let e = entry_length a.pack.now a.offsets.now a.qualified.now a.m a.j n.result.now n.ensures in record { value = omega (arith, e, name-length n.result.now, x.ensures.value, y.ensures.value, z.ensures.value, c.put_called.ensures.value); report_after = entry-put _ _ _ _ _ a.report.now _ _ _ _ _ a.at _ _ _ n.ensures (omega (arith, c.requires)) x.ensures.value x.ensures.report_after y.ensures.value y.ensures.report_after z.ensures.value z.ensures.report_after c.put_called.ensures.report_after }
