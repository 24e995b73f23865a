use mathlib.Core.Path.{ap, ◌∙◌}
use Rattle.pack.specs.Intern.{render}
use Rattle.machines.proofs.RegionLaws.{next-inner, next-top}
use Rattle.machines.proofs.emit_region.put_next_rhs.Goals as goal

pub returns-then-id-eq0 : goal.returns-then-id-eq0
returns-then-id-eq0 c = λ ns e. next-top _ _ _ _ _ ns _ _ _ _ c.layout_word-id.ensures c.if-id-eq0.true (c.build_next_state_chain.ensures ns e)

pub returns : goal.returns
returns c = λ ns e. c.put_variable.ensures ∙ ap (render _ _) (c.build_next_state_chain-c.ensures ns e ∙ ap (render _ _) (c.put_variable-b.ensures ∙ ap (render _ _) (c.put_byte-a.ensures _))) ∙ next-inner _ _ _ _ _ ns _ _ _ c.layout_word-id.ensures c.if-id-eq0.false
