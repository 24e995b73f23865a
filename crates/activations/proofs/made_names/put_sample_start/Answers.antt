use Rattle.machines.proofs.MadeLaws.{put_is}
use Rattle.activations.proofs.MadeLaws.{sample-text}
use Rattle.activations.proofs.made_names.put_sample_start.Goals as goal

pub returns : goal.returns
returns c = λ m. put_is _ _ _ _ (sample-text _ _ _) (c.put_scoped.ensures m)
