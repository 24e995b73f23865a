use mathlib.Core.Path.{ap, ◌∙◌}
use Rattle.pack.specs.Intern.{render}
use Rattle.machines.proofs.TermLaws.{state-history, state-restart}
use Rattle.machines.proofs.emit_region.put_state_rhs.Goals as goal

pub returns-then-history : goal.returns-then-history
returns-then-history c = c.put_previous_next.ensures ∙ state-history _ _ _ _ _ c.if-history.true

pub returns : goal.returns
returns c = c.put_previous_next-2.ensures ∙ ap (render _ _) (c.put_named-c.ensures ∙ ap (render _ _) (c.put_entered-b.ensures ∙ ap (render _ _) (c.put_byte-a.ensures _))) ∙ state-restart _ _ _ _ _ c.if-history.false
