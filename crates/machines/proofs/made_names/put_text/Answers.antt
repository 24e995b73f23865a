use Rattle.machines.proofs.MadeLaws.{var-is, put_is, state-top, state-inner, next-top, next-inner, active-any}
use Rattle.machines.proofs.made_names.put_text.Goals as goal

pub returns-then-id-eq0 : goal.returns-then-id-eq0
returns-then-id-eq0 c = λ m. var-is _ _ _ _ _ c.in-State.is (put_is _ _ _ _ (state-top _ c.if-id-eq0.true) (c.put_bytes.ensures m))

pub returns-then-id-eq0-2 : goal.returns-then-id-eq0-2
returns-then-id-eq0-2 c = λ m. var-is _ _ _ _ _ c.in-Next.is (put_is _ _ _ _ (next-top _ c.if-id-eq0-2.true) (c.put_bytes-then-id-eq0-2.ensures m))

pub returns-else-id-eq0 : goal.returns-else-id-eq0
returns-else-id-eq0 c = λ m. var-is _ _ _ _ _ c.in-State.is (put_is _ _ _ _ (state-inner _ c.if-id-eq0.false) (c.put_region.ensures m))

pub returns-else-id-eq0-2 : goal.returns-else-id-eq0-2
returns-else-id-eq0-2 c = λ m. var-is _ _ _ _ _ c.in-Next.is (put_is _ _ _ _ (next-inner _ c.if-id-eq0-2.false) (c.put_region-in-Next.ensures m))

pub returns-in-Active : goal.returns-in-Active
returns-in-Active c = λ m. var-is _ _ _ _ _ c.in-Active.is (put_is _ _ _ _ (active-any _) (c.put_region-in-Active.ensures m))
