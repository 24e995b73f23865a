use mathlib.Core.Path.{refl, sym}
use borrow.Author.Tests.{eq-eqb, ne_eqb}
use Rattle.machines.proofs.CoverLaws.{gives-is}
use Rattle.machines.proofs.cover.assigns_only.Goals as goal

pub returns-then-k-eq1 : goal.returns-then-k-eq1
returns-then-k-eq1 c = λ ns e. gives-is ns _ _ _ _ _ _ _ _ _ c.number-k.ensures c.number-i.ensures (c.end_of-next.ensures ns e) (sym (eq-eqb _ _ c.if-k-eq1.true)) refl refl

pub returns-else-k-eq1 : goal.returns-else-k-eq1
returns-else-k-eq1 c = λ ns e. gives-is ns _ _ _ _ _ _ _ _ _ c.number-k.ensures c.number-i.ensures (c.end_of-next.ensures ns e) (sym (ne_eqb _ _ c.if-k-eq1.false)) refl (ne_eqb _ _ c.if-k-eq1.false)
