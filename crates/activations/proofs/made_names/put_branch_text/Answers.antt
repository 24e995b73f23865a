use Rattle.machines.proofs.MadeLaws.{put_is}
use Rattle.activations.proofs.MadeLaws.{clock-first, clock-later, flag-text, untaken-text, var-is}
use Rattle.activations.proofs.made_names.put_branch_text.Goals as goal

pub returns-then-k-eq0 : goal.returns-then-k-eq0
returns-then-k-eq0 c = λ m. var-is _ _ _ _ _ _ c.in-Clock.is (put_is _ _ _ _ (clock-first _ _ c.if-k-eq0.true) (c.put_numbered-then-k-eq0.ensures m))

pub returns-in-Flag : goal.returns-in-Flag
returns-in-Flag c = λ m. var-is _ _ _ _ _ _ c.in-Flag.is (put_is _ _ _ _ (flag-text _ _) (c.put_numbered.ensures m))

pub returns-in-Untaken : goal.returns-in-Untaken
returns-in-Untaken c = λ m. var-is _ _ _ _ _ _ c.in-Untaken.is (put_is _ _ _ _ (untaken-text _ _) (c.put_numbered-in-Untaken.ensures m))

pub returns-else-k-eq0 : goal.returns-else-k-eq0
returns-else-k-eq0 c = λ m. var-is _ _ _ _ _ _ c.in-Clock.is (put_is _ _ _ _ (clock-later _ _ c.if-k-eq0.false) (c.put_numbered-in-Clock.ensures m))
