use native.Mathlib.Omega.{arith}
use Rattle.machines.proofs.QualifyLaws.{fits-high, fits_low, fits_on}
use Rattle.machines.proofs.layout.fits.Goals as goal

pub returns-then-len-at : goal.returns-then-len-at
returns-then-len-at c = fits-high _ _ _ _ _ (omega (arith, c.if-len-at.true))

pub returns-then-at-a : goal.returns-then-at-a
returns-then-at-a c = fits_low _ _ _ _ _ (omega (arith, c.if-at-a.true))

pub returns-then-at-a-2 : goal.returns-then-at-a-2
returns-then-at-a-2 c = fits_low _ _ _ _ _ (omega (arith, c.if-at-a-2.true))

pub returns-then-len-at-2 : goal.returns-then-len-at-2
returns-then-len-at-2 c = fits-high _ _ _ _ _ (omega (arith, c.if-len-at-2.true))

pub returns : goal.returns
returns c = fits_on _ _ _ _ _ _ (omega (arith, c.if-at-a-2.false, c.if-at-a.false)) c.if-len-at.false c.if-len-at-2.false c.prefix_len.ensures
