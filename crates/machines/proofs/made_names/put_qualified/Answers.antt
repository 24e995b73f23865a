use mathlib.Core.Path.{ap, ◌∙◌}
use Rattle.wire.specs.Writer.{puts}
use Rattle.machines.proofs.RowLaws.{qualified-is}
use Rattle.machines.proofs.made_names.put_qualified.Goals as goal

pub returns : goal.returns
returns c = λ m. c.put_bytes.ensures m ∙ ap (puts _) (c.put_prefix-a.ensures m) ∙ qualified-is _ _ _ _ _ _ _ _ c.pack_name-n.ensures
