use mathlib.Core.Path.{ap, ◌∙◌}
use Rattle.pack.specs.Intern.{render}
use Rattle.machines.proofs.ChainLaws.{test-term}
use Rattle.machines.proofs.next_state_chain.put_test.Goals as goal

pub returns : goal.returns
returns c = c.put_is.ensures ∙ ap (render _ _) (c.put_byte-a.ensures _) ∙ test-term _ _ _ _ _ _ _ _ c.layout_word-id.ensures c.letters-n.ensures
