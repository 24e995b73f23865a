use native.Mathlib.Omega.{arith}
use Rattle.machines.proofs.EntryLaws.{name-length, name-put}
use Rattle.machines.proofs.report.put_name.Goals as goal

pub put_low-a-requires : goal.put_low-a-requires
put_low-a-requires c = omega (arith, name-length c.args.n.now)

pub append-requires : goal.append-requires
append-requires c = omega (arith, name-length c.args.n.now, c.put_low-a.ensures.value)

pub returns : goal.returns
returns c = record { value = omega (arith, name-length c.args.n.now, c.put_low-a.ensures.value, c.append.ensures.value); report_after = name-put _ _ _ _ _ _ (omega arith) c.put_low-a.ensures.value c.put_low-a.ensures.report_after c.append.ensures.dst_after }
