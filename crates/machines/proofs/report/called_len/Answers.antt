use native.Mathlib.Omega.{arith}
use Rattle.machines.proofs.EntryLaws.{length-inside, length-letters, length_none, own-most, prefix-fits}
use Rattle.machines.proofs.report.called_len.Goals as goal

pub returns-then-letters-eq0 : goal.returns-then-letters-eq0
returns-then-letters-eq0 c = length_none _ _ _ _ c.if-name-eq-ABSENT.true c.if-letters-eq0.true

pub returns-then-name-eq-ABSENT : goal.returns-then-name-eq-ABSENT
returns-then-name-eq-ABSENT c = length-letters _ _ _ _ _ c.if-name-eq-ABSENT.true c.if-letters-eq0.false c.part-p.ensures

pub overflow_add-result-2 : goal.overflow_add-result-2
overflow_add-result-2 c = omega (arith, prefix-fits _ _ _ _ _ c.part-p.ensures c.prefix_len.ensures)

pub overflow_add-result-3 : goal.overflow_add-result-3
overflow_add-result-3 c = omega (arith, prefix-fits _ _ _ _ _ c.part-p.ensures c.prefix_len.ensures, own-most _ _ _ _ c.pack_name-n.ensures)

pub returns : goal.returns
returns c = length-inside _ _ _ _ _ _ _ c.if-name-eq-ABSENT.false c.part-p.ensures c.pack_name-n.ensures c.prefix_len.ensures
