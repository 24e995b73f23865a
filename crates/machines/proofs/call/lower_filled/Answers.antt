use native.Mathlib.Omega.{arith}
use Rattle.machines.proofs.EmitMachineLaws.{long_kept}
use Rattle.machines.proofs.Answered.{answers-reported, answers-written, reports-known}
use Rattle.machines.proofs.call.lower_filled.Goals as goal

pub report_all-requires : goal.report_all-requires
report_all-requires c = (long_kept _ _ _ _ _ _ c.fill_tables-refused.auto.layout c.fill_tables-refused.auto.rows c.fill_tables-refused.auto.qualified c.requires.1, omega (arith, c.small-n.ensures.0), reports-known _ _ c.requires.3.held c.requires.3.stands (λ i. omega (arith, c.type_inv.pack i)) c.requires.0 _ _ _ _ _ _ _ _ _ _ _ _ c.requires.2 c.fill_tables-refused.ensures.filled _ _ _ c.requires.1 _ _ c.number-m.ensures c.small-n.ensures.1)

pub returns-then-refused-ne0 : goal.returns-then-refused-ne0
returns-then-refused-ne0 c = λ p st. answers-reported _ _ p st (λ i. omega (arith, c.type_inv.pack i)) c.requires.0 _ _ _ _ _ _ _ _ _ _ _ _ c.requires.2 c.fill_tables-refused.ensures.filled _ _ _ c.requires.1 _ _ c.number-m.ensures c.small-n.ensures.1 _ c.fill_tables-refused.ensures.value c.if-refused-ne0.true _ _ _ _ _ c.report_all.ensures

pub returns : goal.returns
returns c = λ p st. answers-written _ _ p st (λ i. omega (arith, c.type_inv.pack i)) c.requires.0 _ _ _ _ _ _ _ _ _ _ _ _ c.requires.2 c.fill_tables-refused.ensures.filled _ _ _ c.requires.1 _ _ c.number-m.ensures c.small-n.ensures.1 _ c.fill_tables-refused.ensures.value c.if-refused-ne0.false _ _ _ _ _ c.write_out_of_line.ensures
