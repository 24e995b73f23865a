use Rattle.activations.proofs.MadeLaws.{value-text}
use Rattle.machines.proofs.MadeLaws.{put_is}
use Rattle.activations.proofs.made_names.put_value_text.Goals as goal

pub returns : goal.returns
returns c = λ m. put_is _ _ _ _ (value-text _ _ _) (c.put_scoped.ensures m)
