use Rattle.machines.specs.MemoSound.{MemoSound}
use Rattle.machines.proofs.memo.fill_memo.Given as goal

abbrev pub invariant-loop : goal.invariant-loop
invariant-loop l = MemoSound l.pack.bytes.now l.pack.names l.offsets l.memo
