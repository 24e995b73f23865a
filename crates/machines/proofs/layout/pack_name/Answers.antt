use native.Mathlib.Omega.{arith}
use Rattle.machines.proofs.RowLaws.{name_in_lem, name_out}
use Rattle.machines.proofs.layout.pack_name.Goals as goal

pub overflow_cast-pack : goal.overflow_cast-pack
overflow_cast-pack c = omega (arith, c.shared_slice_known-1.given c.cell-at.result)

pub returns-then-at-pack : goal.returns-then-at-pack
returns-then-at-pack c = name_in_lem _ _ _ _ _ c.cell-at.ensures c.part.ensures

pub returns : goal.returns
returns c = name_out _ _ _ _ _ c.cell-at.ensures c.if-at-pack.false c.part-2.ensures
