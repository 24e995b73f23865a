use native.Mathlib.Omega.{arith}
use mathlib.Core.Path.{refl}
use Rattle.machines.proofs.MemoLaws.{state-row-is}
use Rattle.machines.proofs.memo.state_row.Goals as goal

pub returns : goal.returns
returns c = record { value = state-row-is _ _ refl; upper_bound = omega arith }
