use native.Mathlib.Omega.{arith}
use mathlib.Core.List.{[], ◌∷◌}
use mathlib.Core.Path.{sym}
use Rattle.machines.proofs.Overwriting.{over-as, over-then}
use Rattle.machines.proofs.EntryLaws.{a-prefix, no-prefix, no-prefix-length, prefix-length, prefix-longer}
use Rattle.machines.proofs.report.put_prefix.Goals as goal

pub append-a-requires : goal.append-a-requires
append-a-requires c = omega (arith, prefix-longer c.args.p.now)

pub returns-then-p-eq0 : goal.returns-then-p-eq0
returns-then-p-eq0 c = record { value = omega (arith, c.append-a.ensures.value, no-prefix-length c.args.p.now c.if-p-eq0.true); report_after = over-as _ _ _ _ _ c.append-a.ensures.dst_after (sym (no-prefix c.args.p.now c.if-p-eq0.true)) }

pub append-requires : goal.append-requires
append-requires c = omega (arith, c.append-a.ensures.value, prefix-length c.args.p.now c.if-p-eq0.false)

pub returns : goal.returns
returns c = record { value = omega (arith, c.append-a.ensures.value, c.append.ensures.value, prefix-length c.args.p.now c.if-p-eq0.false); report_after = over-as _ _ _ _ _ (over-then _ _ _ _ (95 ∷ []) _ _ (omega arith) c.append-a.ensures.value c.append-a.ensures.dst_after c.append.ensures.dst_after) (sym (a-prefix c.args.p.now c.if-p-eq0.false)) }
