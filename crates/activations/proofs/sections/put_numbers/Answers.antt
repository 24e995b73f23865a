use mathlib.Core.Path.{ap, ◌∙◌}
use Rattle.wire.specs.Writer.{put, puts}
use Rattle.activations.proofs.OriginLaws.{numbers-put}
use Rattle.activations.proofs.sections.put_numbers.Goals as goal

pub returns : goal.returns
returns c = λ old l. c.put_u16.ensures l ∙ ap (puts _) (c.put_u16-g.ensures l ∙ ap (puts _) (c.put_u16-d.ensures l ∙ ap (puts _) (c.put_byte-c.ensures l ∙ ap (put 1) (c.put_u16-b.ensures l)))) ∙ numbers-put old _ _ _ _ _
