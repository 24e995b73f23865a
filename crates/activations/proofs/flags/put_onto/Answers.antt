use mathlib.Core.Path.{ap, ◌∙◌}
use Rattle.pack.specs.Intern.{render}
use Rattle.activations.proofs.ClockLaws.{onto-branch, onto-other}
use Rattle.activations.proofs.flags.put_onto.Goals as goal

pub returns-then-k-n : goal.returns-then-k-n
returns-then-k-n c = c.put_under.ensures ∙ ap (render _ _) c.put_when-c.ensures ∙ onto-branch _ _ _ _ _ c.if-k-n.true

pub returns : goal.returns
returns c = c.put_under-2.ensures ∙ onto-other _ _ _ _ _ c.if-k-n.false
