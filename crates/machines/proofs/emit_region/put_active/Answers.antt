use mathlib.Core.Path.{refl, ◌∙◌}
use Rattle.machines.proofs.RegionLaws.{active-none, active-some}
use Rattle.machines.proofs.emit_region.put_active.Goals as goal

pub returns-then-id-eq0 : goal.returns-then-id-eq0
returns-then-id-eq0 c = active-none _ _ _ _ _ _ c.layout_word-id.ensures c.if-id-eq0.true

pub returns : goal.returns
returns c = c.put_active_equation.ensures ∙ active-some _ _ _ _ _ _ _ _ _ _ c.layout_word-id.ensures c.if-id-eq0.false c.layout_word-up.ensures c.layout_word-p.ensures c.letters-n.ensures refl
