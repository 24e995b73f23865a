use mathlib.Core.List.{[]}
use mathlib.Core.Path.{ap, ◌∙◌}
use Rattle.wire.specs.Writer.{puts}
use Rattle.activations.proofs.LocalLaws.{holder-local-is}
use Rattle.activations.proofs.locals.put_holder_local.Goals as goal

pub returns : goal.returns
returns c = λ ns e. holder-local-is ns _ _ _ _ _ _ _ _ _ _ _ _ _ _ _ c.cell.ensures c.pack_name-v.ensures c.cell-2.ensures c.cell-c.ensures (c.put_last_text-t.ensures [] ∙ ap (puts _) (c.start.ensures _ [])) (c.put_local.ensures ns e)
