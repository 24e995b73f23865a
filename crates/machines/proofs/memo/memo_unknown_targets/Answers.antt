use Rattle.machines.proofs.MemoSoundLaws.{strays-put}
use Rattle.machines.proofs.memo.memo_unknown_targets.Goals as goal

pub returns : goal.returns
returns c = strays-put _ _ _ _ _ _ _ c.if-from-lt5.false c.number-c.ensures c.unknown_targets-r.ensures c.memo_put.ensures _ c.requires
