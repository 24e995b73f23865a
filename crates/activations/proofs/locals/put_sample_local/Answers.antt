use mathlib.Core.List.{[]}
use mathlib.Core.Path.{ap, ◌∙◌}
use Rattle.wire.specs.Writer.{puts}
use Rattle.activations.proofs.ScopeLocalLaws.{sample-local-is}
use Rattle.activations.proofs.locals.put_sample_local.Goals as goal

pub returns : goal.returns
returns c = λ ns e. sample-local-is ns _ _ _ _ _ _ _ _ _ _ _ _ _ _ _ e c.typed-c.ensures (c.put_sample_text-t.ensures [] ∙ ap (puts _) (c.start.ensures _ [])) (c.put_local.ensures ns e)
