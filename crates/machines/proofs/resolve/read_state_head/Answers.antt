use Prim.Native.Nat.{max}
use Rattle.machines.proofs.Remaining.{none_left, one_less, some_left}
use Rattle.machines.specs.ResolveAt.{target_t}
use Rattle.machines.proofs.CheckedReadLaws.{turns-went, turns-done}
use Rattle.machines.proofs.ResolveLaws.{head-is}
use Rattle.machines.proofs.MemoSoundLaws.{moves_from}
use Rattle.machines.proofs.resolve.read_state_head.Goals as goal

pub loop-preserved : goal.loop-preserved
loop-preserved c = λ ns e. rw one_less (turns-went (target_t ns _ _) max _ _ _ _ _ _ (some_left c.loop-test.true) (c.target_len-x.ensures ns e) c.max-a.ensures (c.loop.invariant ns e))

pub returns : goal.returns
returns c = λ ns e f. head-is ns _ _ _ _ _ _ _ _ c.number-i.ensures (moves_from ns _ _ _ _ c.number-i.ensures f) c.number-t.ensures c.name_len-a.ensures (turns-done (target_t ns _ _) max _ _ _ _ (none_left c.loop-test.false) (c.loop.invariant ns e))
