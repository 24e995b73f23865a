use mathlib.Core.Path.{ap, ◌∙◌}
use Rattle.wire.specs.Writer.{put, puts}
use Rattle.pack.specs.Intern.{put_name}
use Rattle.machines.proofs.ChainLaws.{move-term}
use Rattle.machines.proofs.next_state_chain.put_move.Goals as goal

pub returns : goal.returns
returns c = c.put_in_region.ensures ∙ ap (put_name _ _) (c.put_byte-c.ensures _ ∙ ap (put _) (c.put_bytes-b.ensures _ ∙ ap (puts _) (c.put_byte-a.ensures _))) ∙ move-term _ _ _ _ _ _ _ _ _ _ _ c.between-g.ensures
