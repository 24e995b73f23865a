use native.Mathlib.Omega.{arith}
use mathlib.Core.List.{[]}
use mathlib.Core.Path.{refl, ap, ◌∙◌}
use lib.ListN.{length-take}
use Rattle.wire.specs.Writer.{puts}
use Rattle.machines.proofs.RegionLaws.{built-over, built-text, state-over, state-some}
use Rattle.machines.proofs.emit_region.put_state.Goals as goal

pub returns-then-full : goal.returns-then-full
returns-then-full c = c.stopped.ensures _ _ ∙ state-over _ _ _ _ _ _ _ _ c.entry-x.ensures (built-over _ _ _ (c.put_qualified-v.ensures [] ∙ ap (puts _) (c.start.ensures _ [])) c.if-full.true)

pub slice_bounds-put_state_equation-end : goal.slice_bounds-put_state_equation-end
slice_bounds-put_state_equation-end c = simp length-take (omega arith)

pub returns : goal.returns
returns c = c.put_state_equation.ensures ∙ state-some _ _ _ _ _ _ _ _ _ _ _ _ c.layout_word-id.ensures c.entry-x.ensures c.layout_word-history.ensures refl (built-text _ _ _ (c.put_qualified-v.ensures [] ∙ ap (puts _) (c.start.ensures _ [])) _ c.if-full.false c.min-end.ensures)
