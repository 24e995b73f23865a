use mathlib.Core.List.{[]}
use mathlib.Core.Path.{ap, ◌∙◌}
use Rattle.wire.specs.Writer.{puts}
use Rattle.activations.proofs.ScopeLocalLaws.{value-local-is}
use Rattle.activations.proofs.locals.put_value_local.Goals as goal

pub returns : goal.returns
returns c = λ ns e. value-local-is ns _ _ _ _ _ _ _ _ _ _ _ _ _ _ _ _ _ e c.first_left-x.ensures c.value_type-c.ensures c.pack_name-o.ensures (c.put_value_text-t.ensures [] ∙ ap (puts _) (c.start.ensures _ [])) (c.put_local.ensures ns e)
