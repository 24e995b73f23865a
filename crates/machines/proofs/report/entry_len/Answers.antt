use native.Mathlib.Omega.{arith}
use Rattle.machines.proofs.EntryLaws.{called-fits, entry-counted, own-most}
use Rattle.machines.proofs.report.entry_len.Goals as goal

pub overflow_add-result-2 : goal.overflow_add-result-2
overflow_add-result-2 c = omega (arith, own-most _ _ _ _ c.pack_name-n.ensures, called-fits _ _ _ _ _ c.called_len-a.ensures, called-fits _ _ _ _ _ c.called_len-b.ensures)

pub overflow_add-result-3 : goal.overflow_add-result-3
overflow_add-result-3 c = omega (arith, own-most _ _ _ _ c.pack_name-n.ensures, called-fits _ _ _ _ _ c.called_len-a.ensures, called-fits _ _ _ _ _ c.called_len-b.ensures)

pub returns : goal.returns
returns c = entry-counted _ _ _ _ _ _ _ _ c.pack_name-n.ensures c.called_len-a.ensures c.called_len-b.ensures
