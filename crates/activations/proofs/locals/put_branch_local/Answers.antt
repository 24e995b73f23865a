use mathlib.Core.List.{[]}
use mathlib.Core.Path.{ap, ◌∙◌}
use Rattle.wire.specs.Writer.{puts}
use Rattle.activations.proofs.LocalLaws.{branch-local-is}
use Rattle.activations.proofs.locals.put_branch_local.Goals as goal

pub returns : goal.returns
returns c = λ ns e. branch-local-is ns _ _ _ _ _ _ _ _ _ (c.put_branch_text-t.ensures [] ∙ ap (puts _) (c.start.ensures _ [])) (c.put_local.ensures ns e)
