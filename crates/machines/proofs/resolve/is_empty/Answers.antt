use mathlib.Core.Path.{refl, sym}
use borrow.Author.Tests.{eq-eqb, ne_eqb}
use Rattle.machines.proofs.EmptyLaws.{empty-is, empty-not}
use Rattle.machines.proofs.resolve.is_empty.Goals as goal

pub returns-then-g-lt5 : goal.returns-then-g-lt5
returns-then-g-lt5 c = empty-not _ _ c.if-g-lt5.true

pub returns-then-g-eq0 : goal.returns-then-g-eq0
returns-then-g-eq0 c = empty-is _ _ _ _ _ c.if-g-lt5.false (sym (eq-eqb _ _ c.if-g-eq0.true)) refl refl

pub returns-else-g-eq0 : goal.returns-else-g-eq0
returns-else-g-eq0 c = empty-is _ _ _ _ _ c.if-g-lt5.false (sym (ne_eqb _ _ c.if-g-eq0.false)) refl (ne_eqb _ _ c.if-g-eq0.false)
