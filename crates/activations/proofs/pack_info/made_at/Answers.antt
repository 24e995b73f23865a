use Rattle.activation_rules.specs.MadeNames.{act_prefix}
use Rattle.activations.proofs.LookupLaws.{made_is}
use Rattle.activations.proofs.pack_info.made_at.Goals as goal

pub returns : goal.returns
unfolding act_prefix
returns c = made_is _ _ _ _ _ c.pack_name.ensures c.starts_with.ensures.value
