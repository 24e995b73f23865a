use mathlib.Core.Path.{ap, ◌∙◌}
use Rattle.wire.specs.Writer.{puts}
use Rattle.pack.specs.Intern.{render}
use Rattle.machines.proofs.EnumLaws.{enum-term}
use Rattle.machines.proofs.emit_region.put_enum.Goals as goal

pub returns : goal.returns
returns c = c.put_variants.ensures ∙ ap (render _ _) (c.put_u16-b.ensures _ ∙ ap (puts _) c.put_enum_name-a.ensures) ∙ enum-term _ _ _ _ _ _ _ _ _ c.layout_word-id.ensures c.layout_word-k.ensures c.first-p.ensures
