use native.Mathlib.Omega.{arith}
use Rattle.machines.proofs.MemoSoundLaws.{state-put}
use Rattle.machines.proofs.StateEnds.{head-known}
use Rattle.machines.proofs.memo.memo_state.Goals as goal

pub returns-then-o-eq0 : goal.returns-then-o-eq0
returns-then-o-eq0 c = λ s names offsets k d. k

pub returns-then-l-h : goal.returns-then-l-h
returns-then-l-h c = λ s names offsets k d. k

pub returns-then-max-ge-WORD_RANGE : goal.returns-then-max-ge-WORD_RANGE
returns-then-max-ge-WORD_RANGE c = λ s names offsets k d. k

pub returns : goal.returns
returns c = λ s names offsets k d. state-put _ _ _ _ _ _ _ c.if-l-h.false c.memo_put_state.ensures s names offsets k (head-known s names offsets _ c.args.h _ (d (omega (arith, c.if-o-eq0.false))))
