use Rattle.machines.proofs.MemoSoundLaws.{empties-put}
use Rattle.machines.proofs.memo.memo_empty_regions.Goals as goal

pub returns-then-known-gt0 : goal.returns-then-known-gt0
returns-then-known-gt0 c = c.requires

pub returns-then-k-lt2 : goal.returns-then-k-lt2
returns-then-k-lt2 c = c.requires

pub returns-then-l-ge-WORD_RANGE : goal.returns-then-l-ge-WORD_RANGE
returns-then-l-ge-WORD_RANGE c = c.requires

pub returns : goal.returns
returns c = empties-put _ _ _ _ _ _ _ _ c.empty_run_from-e.ensures c.memo_put.ensures c.requires
