use mathlib.Core.Path.{ap, ◌∙◌}
use Rattle.pack.specs.Intern.{render}
use Rattle.machines.proofs.TermLaws.{active-top, active-inner}
use Rattle.machines.proofs.emit_region.put_active_in.Goals as goal

pub returns-then-top : goal.returns-then-top
returns-then-top c = c.put_is.ensures ∙ active-top _ _ _ _ _ c.if-top.true

pub returns : goal.returns
returns c = c.put_is-2.ensures ∙ ap (render _ _) (c.put_variable-b.ensures ∙ ap (render _ _) (c.put_bytes-a.ensures _)) ∙ active-inner _ _ _ _ _ c.if-top.false
