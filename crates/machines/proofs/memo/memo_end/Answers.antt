use native.Mathlib.Omega.{arith}
use Rattle.machines.proofs.MemoSoundLaws.{end-put}
use Rattle.machines.proofs.memo.memo_end.Goals as goal

pub memo_put-requires : goal.memo_put-requires
memo_put-requires c = (omega arith, omega arith)

pub returns : goal.returns
returns c = record { value = c.after_equation-e.ensures; by_index = end-put _ _ _ _ _ _ c.after_equation-e.ensures c.memo_put.ensures }
