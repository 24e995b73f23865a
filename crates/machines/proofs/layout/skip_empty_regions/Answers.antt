use native.Mathlib.Omega.{arith}
use Rattle.machines.proofs.EmptyLaws.{one-at-once}
use Rattle.machines.proofs.layout.skip_empty_regions.Goals as goal

pub returns-then-levels-eq0 : goal.returns-then-levels-eq0
returns-then-levels-eq0 c = (one-at-once _ _ _ c.requires, λ l. absurd (omega (arith, l)))

pub returns-then-hole : goal.returns-then-hole
returns-then-hole c = (c.run_length.ensures, λ l. (omega (arith, c.if-levels-eq0.false), c.if-hole.true))

pub returns : goal.returns
returns c = (one-at-once _ _ _ c.requires, λ l. absurd (omega (arith, l)))
