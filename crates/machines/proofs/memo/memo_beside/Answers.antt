use mathlib.Core.Path.{refl}
use Rattle.machines.proofs.MemoLaws.{beside-is}
use Rattle.machines.proofs.memo.memo_beside.Goals as goal

pub returns : goal.returns
returns c = beside-is _ _ _ _ c.cell.ensures refl
