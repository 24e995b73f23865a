use mathlib.Core.Path.{ap, ◌∙◌}
use Rattle.wire.specs.Writer.{put, puts}
use Rattle.machines.proofs.AddedItems.{origin-put}
use Rattle.machines.proofs.sections.put_numbers.Goals as goal

pub returns : goal.returns
returns c = λ old l. c.put_u16.ensures l ∙ ap (puts _) (c.put_u16-x.ensures l ∙ ap (puts _) (c.put_u16-d.ensures l ∙ ap (puts _) (c.put_u16-c.ensures l ∙ ap (puts _) (c.put_byte-b.ensures l ∙ ap (put _) (c.put_u16-a.ensures l))))) ∙ origin-put old _ _ _ _ _
