use Rattle.activations.proofs.FlagLaws.{flag_is}
use Rattle.activations.proofs.flags.put_flag.Goals as goal

pub returns : goal.returns
returns c = λ ns e. flag_is _ _ ns _ _ _ _ _ _ _ _ _ c.put_left-c.ensures c.put_prior-d.ensures (c.rewrite_last.ensures ns e)
