use native.Mathlib.Omega.{arith}
use Rattle.machines.proofs.ResolveLaws.{qualify-large, qualify-fits}
use Rattle.machines.proofs.resolve.qualified_len.Goals as goal

pub returns-then-i-ge-NAME : goal.returns-then-i-ge-NAME
returns-then-i-ge-NAME c = qualify-large _ _ _ _ _ (omega (arith, c.if-i-ge-NAME.true))

pub returns-then-i-w : goal.returns-then-i-w
returns-then-i-w c = qualify-large _ _ _ _ _ (omega (arith, c.if-i-ge-NAME.false, c.if-i-w.true))

pub returns : goal.returns
returns c = qualify-fits _ _ _ _ _ _ (omega (arith, c.if-i-ge-NAME.false, c.if-i-w.false)) c.max.ensures
